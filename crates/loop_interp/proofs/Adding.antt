-- One text added after another, through a buffer.
use Rattle.std.proofs.Common.{◌≡◌, ℕ, List, [], ◌++◌, take, Option, Some, None, Result, Ok, Err, refl, sym, ap, ◌∙◌, subst, append_assoc, append-nil}
use Rattle.strm_io.specs.Writing.{Appends}
use Rattle.strm_io.specs.Appending.{AppendsPrefix}
use Rattle.strm_io.specs.declared.appending.WriteFault.{WriteFault}
use Rattle.std.proofs.lemmas.List.{take-append-drop}
use Rattle.std.specs.Prelude.{drop, decimal, Bool, true, false, ◌∷◌}
use Rattle.strm_num.specs.Magnitudes.{is_negative, magnitude_of}
use Rattle.list_denotation.specs.declared.event.Event.TheVariants.{Emit, EndRow}
use Rattle.strm_num.specs.SignedTexts.{sign_text}
use Rattle.event_texts.specs.Texts.{event_text}
use Rattle.loop_interp.specs.Output.{Adds, IsCut, Writes, event_before, blank_text}

pub appends_nothing : (a : Option (List ℕ)) → Appends a a []
appends_nothing None = tt
appends_nothing (Some w) = ap Some (sym (append-nil w))

pub appends_then : (a b c : Option (List ℕ)) (x y : List ℕ) → Appends a b x → Appends b c y → Appends a c (x ++ y)
appends_then None b c x y h k = tt
appends_then (Some w) None c x y h k = absurd cc
appends_then (Some w) (Some v) c x y h k =
    let e : v ≡ w ++ x = cc in
    k ∙ ap (λ l. Some (l ++ y)) e ∙ ap Some (append_assoc w x y)

-- nothing is added where all stays
pub adds_nothing : (a : Option (List ℕ)) (p : List ℕ) → Adds a a p p []
adds_nothing a p = record { put = []; appended = appends_nothing a; same = sym (append-nil p) }

-- what is put and stays pending of two texts
same_then : (put put' p q r x y : List ℕ) → put ++ q ≡ p ++ x → put' ++ r ≡ q ++ y → (put ++ put') ++ r ≡ p ++ (x ++ y)
same_then put put' p q r x y e f =
    append_assoc put put' r ∙ ap (λ l. put ++ l) f ∙ sym (append_assoc put q y) ∙ ap (λ l. l ++ y) e ∙ append_assoc p x y

pub adds_then : (a b c : Option (List ℕ)) (p q r x y : List ℕ) → Adds a b p q x → Adds b c q r y → Adds a c p r (x ++ y)
adds_then a b c p q r x y h k = record {
  put = h.put ++ k.put;
  appended = appends_then a b c h.put k.put h.appended k.appended;
  same = same_then h.put k.put p q r x y h.same k.same;
}

pub cut_then : (a b c : Option (List ℕ)) (p q x y : List ℕ) → Adds a b p q x → IsCut b c q y → IsCut a c p (x ++ y)
cut_then a b c p q x y h k = record {
  put = h.put ++ k.put;
  rest = k.rest;
  appended = appends_then a b c h.put k.put h.appended k.appended;
  same = same_then h.put k.put p q k.rest x y h.same k.same;
}

-- a cut text is one of more text
pub cut_before : (a b : Option (List ℕ)) (p x y : List ℕ) → IsCut a b p x → IsCut a b p (x ++ y)
cut_before a b p x y h = record {
  put = h.put;
  rest = h.rest ++ y;
  appended = h.appended;
  same = sym (append_assoc h.put h.rest y) ∙ ap (λ l. l ++ y) h.same ∙ append_assoc p x y;
}

pub writes_then : (a b c : Option (List ℕ)) (p q r x y : List ℕ) (result : Result (Unit {0}) WriteFault) → Adds a b p q x → Writes b c q r y result → Writes a c p r (x ++ y) result
writes_then a b c p q r x y (Ok done) h k = adds_then a b c p q r x y h k
writes_then a b c p q r x y (Err fault) h k = cut_then a b c p q x y h k

-- all that was pending is put
pub all_put : (a b : Option (List ℕ)) (n : ℕ) (p l : List ℕ) → l ≡ take n p → Appends a b l → Adds a b (take n p) (take 0 p) []
all_put a b n p l e h = record {
  put = take n p;
  appended = subst (λ t. Appends a b t) e h;
  same = refl;
}

-- some of what was pending is put
pub some_put : (a b : Option (List ℕ)) (p : List ℕ) → AppendsPrefix a b p → IsCut a b p []
some_put a b p h = record {
  put = take h.count p;
  rest = drop h.count p;
  appended = h.appended;
  same = take-append-drop h.count p ∙ sym (append-nil p);
}

-- bytes that stand behind what was pending are added
pub placed : (a : Option (List ℕ)) (p q bytes : List ℕ) → q ≡ p ++ bytes → Adds a a p q bytes
placed a p q bytes e = record { put = []; appended = appends_nothing a; same = e }

-- bytes of which the first n fill the buffer, which is put, and the others stand behind what is pending then
filled : (put rest q p bytes : List ℕ) (n : ℕ) → q ≡ p ++ take n bytes → put ++ rest ≡ q ++ [] → put ++ (rest ++ drop n bytes) ≡ p ++ bytes
filled put rest q p bytes n e h =
    sym (append_assoc put rest (drop n bytes))
    ∙ ap (λ l. l ++ drop n bytes) (h ∙ append-nil q ∙ e)
    ∙ append_assoc p (take n bytes) (drop n bytes)
    ∙ ap (λ l. p ++ l) (take-append-drop n bytes)

pub cut_in_two : (a b : Option (List ℕ)) (p q bytes : List ℕ) (n : ℕ) → q ≡ p ++ take n bytes → IsCut a b q [] → IsCut a b p bytes
cut_in_two a b p q bytes n e h = record {
  put = h.put;
  rest = h.rest ++ drop n bytes;
  appended = h.appended;
  same = filled h.put h.rest q p bytes n e h.same;
}

pub ruleset puts = (adds_nothing, all_put, some_put, placed, writes_then)

-- the text of a number is what leads it and its digits
emit_text : (in_row : Bool) (w : ℕ) → event_text (event_before in_row) (Emit w) ≡ (blank_text in_row ++ sign_text (is_negative w)) ++ decimal (magnitude_of w)
emit_text true w = refl
emit_text false w = refl

pub emit_cut : (a b : Option (List ℕ)) (p : List ℕ) (in_row : Bool) (w : ℕ)
    → IsCut a b p (blank_text in_row ++ sign_text (is_negative w)) → IsCut a b p (event_text (event_before in_row) (Emit w))
emit_cut a b p in_row w h =
    subst (λ t. IsCut a b p t) (sym (emit_text in_row w)) (cut_before a b p (blank_text in_row ++ sign_text (is_negative w)) (decimal (magnitude_of w)) h)

pub emit_then : (a b c : Option (List ℕ)) (p q r : List ℕ) (in_row : Bool) (w : ℕ) (result : Result (Unit {0}) WriteFault)
    → Adds a b p q (blank_text in_row ++ sign_text (is_negative w)) → Writes b c q r (decimal (magnitude_of w)) result
    → Writes a c p r (event_text (event_before in_row) (Emit w)) result
emit_then a b c p q r in_row w result h k =
    subst (λ t. Writes a c p r t result) (sym (emit_text in_row w)) (writes_then a b c p q r _ _ result h k)

-- the text of an end of a row
pub end_text : (in_row : Bool) → event_text (event_before in_row) EndRow ≡ 10 ∷ []
end_text true = refl
end_text false = refl

pub end_writes : (a b : Option (List ℕ)) (p q : List ℕ) (in_row : Bool) (result : Result (Unit {0}) WriteFault) → Writes a b p q (10 ∷ []) result → Writes a b p q (event_text (event_before in_row) EndRow) result
end_writes a b p q in_row result h = subst (λ t. Writes a b p q t result) (sym (end_text in_row)) h

pub ruleset emits = (emit_cut, emit_then, end_writes)
