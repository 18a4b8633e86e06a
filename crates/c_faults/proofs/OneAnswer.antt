-- A text has one answer at most, unless memory is refused. It is told from the text behind the header: what
-- is found there, up to where no piece begins, or in its tokens.
use Rattle.std.proofs.Common.{◌≡◌, ℕ, ◌+◌, ◌-◌, List, [], ◌∷◌, length, true, Ok, Err, inl, inr, refl, sym, ap, subst, ◌∙◌}
use Rattle.std.specs.Prelude.{IsTrue}
use Rattle.exact_reader.specs.Exactness.{StopsAt, GoesNowhere, Outcome, Read, Syntax}
use Rattle.exact_reader.proofs.OneOutcome.{one_outcome}
use Rattle.loop_ir.specs.DeclaredNames.{declared_names, block_names}
use Rattle.loop_ir.specs.Statements.{Routine}
use Rattle.c_tokens.specs.Cutting.{Token, AreTokensOf}
use Rattle.c_tokens.proofs.OneCutting.{BeginsNoPiece, nothing_begins, same_parts, one_cutting}
use Rattle.c_grammar.specs.Grammar.{IsProgram}
use Rattle.c_grammar.specs.Reading.{HasHeader, whats, Reads}
use Rattle.c_grammar.proofs.OneProgram.{one_program}
use Rattle.c_grammar.proofs.OneReading.{one_rest}
use Rattle.c_faults.specs.declared.fault.CFault.TheVariants as fault
use Rattle.c_faults.specs.Answers.{programs, size_of_parts, offset_or_end, HasTokenAt, BeginsNothing, IsLexFault, IsTooDeep, StopsThere, NamesFrom, Answer, IsWithinBrackets, HasNoHeader, ReadsAs, IsSameUnlessRefused}
use Rattle.c_faults.specs.Brackets.{is_within}
use Rattle.c_faults.proofs.DeclaredTokens.{tokens_of_names}
use Rattle.c_faults.proofs.FirstFaults.{FirstUndeclared, one_depth_fault, no_depth_fault, one_undeclared, no_undeclared}

-- ---- what is found in tokens

data Ending : Type 0 where
  Deep Stops Undeclared : ℕ → Ending
  Whole : Routine → Ending

-- the tokens of a text of this length are a program, or have a fault at this offset
abbrev EndsIn : ℕ → List Token → Ending → Type 0
EndsIn end toks (Deep at) = HasTokenAt at IsTooDeep toks
EndsIn end toks (Stops at) = (is_within 0 (whats toks) ≡ true) × StopsThere end at toks
EndsIn end toks (Undeclared at) = (is_within 0 (whats toks) ≡ true) × NamesFrom at toks
EndsIn end toks (Whole q) =
    (is_within 0 (whats toks) ≡ true) × IsProgram q (whats toks) × IsTrue (block_names (declared_names q.params q.vars) q.body)

one_tree : (toks : List Token) (p q : Routine) → IsProgram p (whats toks) → IsProgram q (whats toks) → p ≡ q
one_tree toks p q f g = one_program p q (whats toks) f g

one_stop : (toks r s : List Token) → StopsAt programs (GoesNowhere programs) toks r → StopsAt programs (GoesNowhere programs) toks s → r ≡ s
one_stop toks r s f g =
    let same : ◌≡◌ {A = Outcome Token Routine} (Syntax r) (Syntax s) = one_outcome programs one_tree toks (Syntax r) (Syntax s) f g in cc

program_never_stops : (toks r : List Token) (q : Routine) → IsProgram q (whats toks) → StopsAt programs (GoesNowhere programs) toks r → ⊥
program_never_stops toks r q f g =
    let same : ◌≡◌ {A = Outcome Token Routine} (Read q) (Syntax r) = one_outcome programs one_tree toks (Read q) (Syntax r) (f, tt) g in absurd cc

-- a program that declares the names in its statements names no other
names_declared : (toks : List Token) (at : ℕ) (q : Routine) → IsProgram q (whats toks) → IsTrue (block_names (declared_names q.params q.vars) q.body) → NamesFrom at toks → ⊥
names_declared toks at q f declared g =
    let same : g.program ≡ q = one_tree toks g.program q g.is f in
    let undeclared = subst (λ (p : Routine). HasTokenAt at (FirstUndeclared (declared_names p.params p.vars)) toks) same g.fault in
    no_undeclared (declared_names q.params q.vars) toks at (tokens_of_names q toks f declared) undeclared

one_undeclared_name : (toks : List Token) (a b : ℕ) → NamesFrom a toks → NamesFrom b toks → a ≡ b
one_undeclared_name toks a b f g =
    let same : f.program ≡ g.program = one_tree toks f.program g.program f.is g.is in
    let undeclared = subst (λ (p : Routine). HasTokenAt a (FirstUndeclared (declared_names p.params p.vars)) toks) same f.fault in
    one_undeclared (declared_names g.program.params g.program.vars) toks a b undeclared g.fault

one_ending : (end : ℕ) (toks : List Token) (e d : Ending) → EndsIn end toks e → EndsIn end toks d → e ≡ d
one_ending end toks (Deep a) (Deep b) f g = ap Deep (one_depth_fault toks a b f g)
one_ending end toks (Deep a) (Stops b) f g = absurd (no_depth_fault toks a g.0 f)
one_ending end toks (Deep a) (Undeclared b) f g = absurd (no_depth_fault toks a g.0 f)
one_ending end toks (Deep a) (Whole q) f g = absurd (no_depth_fault toks a g.0 f)
one_ending end toks (Stops a) (Deep b) f g = absurd (no_depth_fault toks b f.0 g)
one_ending end toks (Stops a) (Stops b) f g =
    ap Stops (f.1.offset ∙ ap (offset_or_end end) (one_stop toks f.1.rest g.1.rest f.1.stops g.1.stops) ∙ sym g.1.offset)
one_ending end toks (Stops a) (Undeclared b) f g = absurd (program_never_stops toks f.1.rest g.1.program g.1.is f.1.stops)
one_ending end toks (Stops a) (Whole q) f g = absurd (program_never_stops toks f.1.rest q g.1 f.1.stops)
one_ending end toks (Undeclared a) (Deep b) f g = absurd (no_depth_fault toks b f.0 g)
one_ending end toks (Undeclared a) (Stops b) f g = absurd (program_never_stops toks g.1.rest f.1.program f.1.is g.1.stops)
one_ending end toks (Undeclared a) (Undeclared b) f g = ap Undeclared (one_undeclared_name toks a b f.1 g.1)
one_ending end toks (Undeclared a) (Whole q) f g = absurd (names_declared toks a q g.1 g.2 f.1)
one_ending end toks (Whole p) (Deep b) f g = absurd (no_depth_fault toks b f.0 g)
one_ending end toks (Whole p) (Stops b) f g = absurd (program_never_stops toks g.1.rest p f.1 g.1.stops)
one_ending end toks (Whole p) (Undeclared b) f g = absurd (names_declared toks b p f.1 f.2 g.1)
one_ending end toks (Whole p) (Whole q) f g = ap Whole (one_tree toks p q f.1 g.1)

-- ---- what is found in a text

data Finding : Type 0 where
  Stuck : ℕ → Finding
  Cut : Ending → Finding

record IsCutTo (text : List ℕ) (e : Ending) : Type 0 where
  toks : List Token
  tokens : AreTokensOf text toks
  ends : EndsIn (length text) toks e

abbrev Finds : List ℕ → Finding → Type 0
Finds text (Stuck at) = IsLexFault text at
Finds text (Cut e) = IsCutTo text e

no_piece_begins : (cs : List ℕ) → BeginsNothing cs → BeginsNoPiece cs
no_piece_begins [] h = absurd h
no_piece_begins (c ∷ cs) h = h

one_stuck : (text : List ℕ) (a b : ℕ) → IsLexFault text a → IsLexFault text b → a ≡ b
one_stuck text a b f g =
    let same = same_parts text f.parts g.parts f.end g.end (no_piece_begins f.end f.stuck) (no_piece_begins g.end g.stuck) f.passes g.passes in
    f.offset ∙ ap size_of_parts same.0 ∙ sym g.offset

-- a text that is stuck is not cut to its end
stuck_or_cut : (text : List ℕ) (at : ℕ) (toks : List Token) → IsLexFault text at → AreTokensOf text toks → ⊥
stuck_or_cut text at toks f g =
    let same = same_parts text f.parts g.parts f.end [] (no_piece_begins f.end f.stuck) nothing_begins f.passes g.passes in
    subst BeginsNothing same.1 f.stuck

one_cut : (text : List ℕ) (e d : Ending) → IsCutTo text e → IsCutTo text d → e ≡ d
one_cut text e d f g =
    let same = one_cutting text f.toks g.toks f.tokens g.tokens in
    one_ending (length text) g.toks e d (subst (λ toks. EndsIn (length text) toks e) same f.ends) g.ends

one_finding : (text : List ℕ) (e d : Finding) → Finds text e → Finds text d → e ≡ d
one_finding text (Stuck a) (Stuck b) f g = ap Stuck (one_stuck text a b f g)
one_finding text (Stuck a) (Cut d) f g = absurd (stuck_or_cut text a g.toks f g.tokens)
one_finding text (Cut e) (Stuck b) f g = absurd (stuck_or_cut text b f.toks g f.tokens)
one_finding text (Cut e) (Cut d) f g = ap Cut (one_cut text e d f g)

-- ---- answers

abbrev answer_of : ℕ → Finding → Answer
answer_of start (Stuck at) = Err (fault.Lex (start + at))
answer_of start (Cut (Deep at)) = Err (fault.TooDeep (start + at))
answer_of start (Cut (Stops at)) = Err (fault.Syntax (start + at))
answer_of start (Cut (Undeclared at)) = Err (fault.Unbound (start + at))
answer_of start (Cut (Whole q)) = Ok q

-- the answer is told from what is found behind the header
record IsFound (src : List ℕ) (a : Answer) : Type 0 where
  rest : List ℕ
  header : HasHeader src rest
  finding : Finding
  finds : Finds rest finding
  is : a ≡ answer_of (length src - length rest) finding

one_found : (src : List ℕ) (a b : Answer) → IsFound src a → IsFound src b → a ≡ b
one_found src a b f g =
    let same : f.rest ≡ g.rest = one_rest src f.rest g.rest f.header g.header in
    let findings = one_finding g.rest f.finding g.finding (subst (λ rest. Finds rest f.finding) same f.finds) g.finds in
    f.is ∙ ap (λ rest. answer_of (length src - length rest) f.finding) same ∙ ap (answer_of (length src - length g.rest)) findings ∙ sym g.is

found_program : (src : List ℕ) (q : Routine) → Reads src q → IsWithinBrackets src → IsFound src (Ok q)
found_program src q f g =
    let same : g.rest ≡ f.rest = one_rest src g.rest f.rest g.header f.header in
    let toks : g.cut.toks ≡ f.toks = one_cutting f.rest g.cut.toks f.toks (subst (λ rest. AreTokensOf rest g.cut.toks) same g.cut.tokens) f.tokens in
    record {
      rest = f.rest;
      header = f.header;
      finding = Cut (Whole q);
      finds = record { toks = f.toks; tokens = f.tokens; ends = (ap (λ ts. is_within 0 (whats ts)) (sym toks) ∙ g.cut.within, f.program, f.declared) };
      is = refl;
    }

-- memory was refused, or there is no header, or the answer is found behind it
data Source (src : List ℕ) (a : Answer) : Type 0 where
  Refused : a ≡ Err fault.NoMemory → Source src a
  NoHeader : HasNoHeader src → a ≡ Err (fault.Syntax 0) → Source src a
  Found : IsFound src a → Source src a

source : (src : List ℕ) (a : Answer) → ReadsAs src a → Source src a
source src (Ok q) f = Found (found_program src q f.0 f.1)
source src (Err (fault.Lex at)) f = Found (record {
  rest = f.rest;
  header = f.header;
  finding = Stuck f.offset;
  finds = f.holds_there;
  is = ap (λ n. Err (fault.Lex n)) f.place;
})
source src (Err (fault.TooDeep at)) f = Found (record {
  rest = f.rest;
  header = f.header;
  finding = Cut (Deep f.offset);
  finds = record { toks = f.holds_there.toks; tokens = f.holds_there.tokens; ends = f.holds_there.fault };
  is = ap (λ n. Err (fault.TooDeep n)) f.place;
})
source src (Err (fault.Syntax at)) (inl f) = NoHeader f.0 (ap (λ n. Err (fault.Syntax n)) f.1)
source src (Err (fault.Syntax at)) (inr f) = Found (record {
  rest = f.rest;
  header = f.header;
  finding = Cut (Stops f.offset);
  finds = record { toks = f.holds_there.toks; tokens = f.holds_there.tokens; ends = (f.holds_there.within, f.holds_there.goes_on) };
  is = ap (λ n. Err (fault.Syntax n)) f.place;
})
source src (Err (fault.Unbound at)) f = Found (record {
  rest = f.rest;
  header = f.header;
  finding = Cut (Undeclared f.offset);
  finds = record { toks = f.holds_there.toks; tokens = f.holds_there.tokens; ends = (f.holds_there.within, f.holds_there.goes_on) };
  is = ap (λ n. Err (fault.Unbound n)) f.place;
})
source src (Err fault.NoMemory) f = Refused refl

refused_last : (a : Answer) → IsSameUnlessRefused a (Err fault.NoMemory)
refused_last (Ok q) = tt
refused_last (Err (fault.Lex at)) = tt
refused_last (Err (fault.TooDeep at)) = tt
refused_last (Err (fault.Syntax at)) = tt
refused_last (Err (fault.Unbound at)) = tt
refused_last (Err fault.NoMemory) = tt

same_with_itself : (a : Answer) → IsSameUnlessRefused a a
same_with_itself (Ok q) = refl
same_with_itself (Err (fault.Lex at)) = refl
same_with_itself (Err (fault.TooDeep at)) = refl
same_with_itself (Err (fault.Syntax at)) = refl
same_with_itself (Err (fault.Unbound at)) = refl
same_with_itself (Err fault.NoMemory) = tt

same_answers : (a b : Answer) → a ≡ b → IsSameUnlessRefused a b
same_answers a b e = subst (λ (other : Answer). IsSameUnlessRefused a other) e (same_with_itself a)

one_source : (src : List ℕ) (a b : Answer) → Source src a → Source src b → IsSameUnlessRefused a b
one_source src a b (Refused e) g = subst (λ (other : Answer). IsSameUnlessRefused other b) (sym e) tt
one_source src a b (NoHeader f e) (Refused d) = subst (λ (other : Answer). IsSameUnlessRefused a other) (sym d) (refused_last a)
one_source src a b (NoHeader f e) (NoHeader g d) = same_answers a b (e ∙ sym d)
one_source src a b (NoHeader f e) (Found g) = absurd (f g.rest g.header)
one_source src a b (Found f) (Refused d) = subst (λ (other : Answer). IsSameUnlessRefused a other) (sym d) (refused_last a)
one_source src a b (Found f) (NoHeader g d) = absurd (g f.rest f.header)
one_source src a b (Found f) (Found g) = same_answers a b (one_found src a b f g)

pub one_answer : (src : List ℕ) (a b : Answer) → ReadsAs src a → ReadsAs src b → IsSameUnlessRefused a b
one_answer src a b f g = one_source src a b (source src a f) (source src b g)
