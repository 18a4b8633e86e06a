use Rattle.std.proofs.Common.{◌-◌, length, drop}
use Rattle.std.proofs.lemmas.List.Elements.{All-take, All-drop}
use Rattle.pipe_tree.specs.Tokens.{IsSlice}
use Rattle.pipe_rows.proofs.reader.Reader.advance.Goals as goal

pub invariant_of-self : goal.invariant_of-self
invariant_of-self c =
    let toks = c.args.self.now.left.now in
    let part = IsSlice (length c.args.self.now.src.now) in
    record {
      short = c.args.self.now.short;
      slices = All-take part (length toks - 1) (drop 1 toks) (All-drop part 1 toks c.args.self.now.slices);
    }
