use Rattle.std.proofs.Common.{◌≡◌, ◌≢◌, ℕ, ◌<◌, length, sym, ap, ◌∙◌, arith, get_or, below_more}
use Rattle.std.proofs.lemmas.List.{get_or_default}
use Rattle.pipe_lexer.specs.Keywords.{keyword_text}
use Rattle.pipe_lexer.specs.declared.keyword.Keyword.{Keyword}
use Rattle.pipe_lexer.specs.declared.keyword.TheConstants.{KEYWORDS}
use Rattle.pipe_lexer.proofs.KeywordTable.{none_written}
use Rattle.pipe_lexer.proofs.keyword.keyword_of.Goals as goal

pub loop-keyword-preserved : goal.loop-keyword-preserved
loop-keyword-preserved c =
    let at = c.loop-keyword.keyword-index in
    let within : at < length KEYWORDS = c.loop-keyword-test.true in
    let is : c.spelling.result.now ≡ keyword_text (get_or KEYWORDS at _) = c.spelling.ensures in
    let here : (d : Keyword) → keyword_text (get_or KEYWORDS at d) ≢ c.args.identifier.now =
    λ d same.
    let written = c.is_written.ensures.1 (sym same ∙ ap keyword_text (get_or_default KEYWORDS at d _ within) ∙ sym is) in
    let not_written = c.if-is_written.false in
    absurd cc
    in
    let all = below_more (λ (i : ℕ). (d : Keyword) → keyword_text (get_or KEYWORDS i d) ≢ c.args.identifier.now) at (λ i below d. c.loop-keyword.invariant i d below) here in
    λ i d below. all i below d

pub returns : goal.returns
returns c = none_written c.args.identifier.now (λ i d within. c.loop-keyword.invariant i d (let done = c.loop-keyword-test.false in omega arith))
