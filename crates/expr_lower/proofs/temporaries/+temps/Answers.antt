-- A comparison of a remainder with 0 has the temporaries of the dividend.
use Rattle.std.proofs.Common.{rules, ◌≡◌, Some, None, sym, ap, ◌∙◌, arith}
use Rattle.list_denotation.specs.Copies.{term_of}
use Rattle.list_denotation.specs.Terms as term
use Rattle.expr_lower.specs.Costs.{parts_temps, temps_of}
use Rattle.expr_lower.specs.Multiples.{dividend_of, multiple_divisor}
use Rattle.expr_lower.proofs.MultipleTests.{first_temps, second_temps}
use Rattle.expr_lower.proofs.temporaries.+temps.Goals as goal

pub parts_temps-temps_of-requires-in-Some : goal.parts_temps-temps_of-requires-in-Some
parts_temps-temps_of-requires-in-Some t c =
    let op = c.in-Bin.op in
    let a = term_of c.in-Bin.a.value in
    let b = term_of c.in-Bin.b.value in
    let shape : term_of c.args.e.now ≡ term.Bin op a b = ap term_of c.in-Bin.is in
    let divided : multiple_divisor op a b ≡ Some c.in-Some._c = cc in
    let same : temps_of (term_of c.dividend.result.now) ≡ parts_temps (term_of c.args.e.now) =
    ap temps_of (let is : term_of c.dividend.result.now ≡ dividend_of a = cc in is) ∙ sym (first_temps op a b c.in-Some._c divided) ∙ ap parts_temps (sym shape) in
    (search rules, omega (arith, same, c.requires))

pub parts_temps-returns-in-Some : goal.parts_temps-returns-in-Some
parts_temps-returns-in-Some t c =
    let op = c.in-Bin.op in
    let a = term_of c.in-Bin.a.value in
    let b = term_of c.in-Bin.b.value in
    let shape : term_of c.args.e.now ≡ term.Bin op a b = ap term_of c.in-Bin.is in
    let divided : multiple_divisor op a b ≡ Some c.in-Some._c = cc in
    let same : temps_of (term_of c.dividend.result.now) ≡ parts_temps (term_of c.args.e.now) =
    ap temps_of (let is : term_of c.dividend.result.now ≡ dividend_of a = cc in is) ∙ sym (first_temps op a b c.in-Some._c divided) ∙ ap parts_temps (sym shape) in
    c.temps_of-in-Some.ensures ∙ same

pub parts_temps-temps_of-requires-in-Some-multiple_divisor : goal.parts_temps-temps_of-requires-in-Some-multiple_divisor
parts_temps-temps_of-requires-in-Some-multiple_divisor t c =
    let op = c.in-Bin.op in
    let a = term_of c.in-Bin.a.value in
    let b = term_of c.in-Bin.b.value in
    let shape : term_of c.args.e.now ≡ term.Bin op a b = ap term_of c.in-Bin.is in
    let none : multiple_divisor op a b ≡ None = cc in
    let divided : multiple_divisor op b a ≡ Some c.in-Some-multiple_divisor._c = cc in
    let same : temps_of (term_of c.dividend-in-Some-multiple_divisor.result.now) ≡ parts_temps (term_of c.args.e.now) =
    ap temps_of (let is : term_of c.dividend-in-Some-multiple_divisor.result.now ≡ dividend_of b = cc in is) ∙ sym (second_temps op a b c.in-Some-multiple_divisor._c none divided) ∙ ap parts_temps (sym shape) in
    (search rules, omega (arith, same, c.requires))

pub parts_temps-returns-in-Some-multiple_divisor : goal.parts_temps-returns-in-Some-multiple_divisor
parts_temps-returns-in-Some-multiple_divisor t c =
    let op = c.in-Bin.op in
    let a = term_of c.in-Bin.a.value in
    let b = term_of c.in-Bin.b.value in
    let shape : term_of c.args.e.now ≡ term.Bin op a b = ap term_of c.in-Bin.is in
    let none : multiple_divisor op a b ≡ None = cc in
    let divided : multiple_divisor op b a ≡ Some c.in-Some-multiple_divisor._c = cc in
    let same : temps_of (term_of c.dividend-in-Some-multiple_divisor.result.now) ≡ parts_temps (term_of c.args.e.now) =
    ap temps_of (let is : term_of c.dividend-in-Some-multiple_divisor.result.now ≡ dividend_of b = cc in is) ∙ sym (second_temps op a b c.in-Some-multiple_divisor._c none divided) ∙ ap parts_temps (sym shape) in
    c.temps_of-in-Some-multiple_divisor.ensures ∙ same
