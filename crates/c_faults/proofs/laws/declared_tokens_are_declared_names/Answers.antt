use Rattle.c_faults.proofs.DeclaredTokens.{names_of_tokens, tokens_of_names}
use Rattle.c_faults.proofs.laws.declared_tokens_are_declared_names.Goals as goal

pub returns : goal.returns
returns c = record {
  names = names_of_tokens;
  tokens = tokens_of_names;
}
