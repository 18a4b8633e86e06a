-- The text of events after others, added or cut off.
use Rattle.std.proofs.Common.{◌≡◌, inl, inr, ℕ, ◌≤◌, List, [], ◌∷◌, ◌++◌, Bool, true, false, refl, sym, ap, ◌∙◌, subst, append_assoc, arith}
use Rattle.list_denotation.specs.declared.event.Event.{Event}
use Rattle.list_denotation.specs.declared.event.Event.TheVariants.{Emit, EndRow}
use Rattle.event_texts.specs.Texts.{event_text, text_after}
use Rattle.strm_io.specs.Counts.{Rose}
use Rattle.loop_interp.specs.Output.{Adds, IsCut, event_before}
use Rattle.loop_interp.specs.Runs.{Output, row_after, text_from, Wrote, CutsOff}
use Rattle.loop_interp.proofs.Adding.{adds_nothing, adds_then, cut_then, cut_before}

-- what follows a number doesn't depend on the number
after_number : (w : ℕ) (events : List Event) → text_after (Emit w) events ≡ text_after (Emit 0) events
after_number w [] = refl
after_number w (Emit v ∷ events) = refl
after_number w (EndRow ∷ events) = refl

-- the text of events after others
text_then : (in_row : Bool) (a b : List Event) → text_after (event_before in_row) (a ++ b) ≡ text_after (event_before in_row) a ++ text_after (event_before (row_after in_row a)) b
text_then in_row [] b = refl
text_then in_row (Emit w ∷ a) b =
    let t = event_text (event_before in_row) (Emit w) in
    let last = text_after (event_before (row_after true a)) b in
    ap (λ l. t ++ l) (after_number w (a ++ b) ∙ text_then true a b ∙ ap (λ l. l ++ last) (sym (after_number w a)))
    ∙ sym (append_assoc t (text_after (Emit w) a) last)
text_then in_row (EndRow ∷ a) b =
    let t = event_text (event_before in_row) EndRow in
    let last = text_after (event_before (row_after false a)) b in
    ap (λ l. t ++ l) (text_then false a b) ∙ sym (append_assoc t (text_after EndRow a) last)

row_then : (in_row : Bool) (a b : List Event) → row_after in_row (a ++ b) ≡ row_after (row_after in_row a) b
row_then in_row [] b = refl
row_then in_row (Emit w ∷ a) b = row_then true a b
row_then in_row (EndRow ∷ a) b = row_then false a b

rose_earlier : (a b c : ℕ) → a ≤ b → Rose b c → Rose a c
rose_earlier a b c h (inl k) = inl (omega arith)
rose_earlier a b c h (inr k) = inr k

text_joined : (o o' : Output) (a b : List Event) → o'.in_row ≡ row_after o.in_row a → text_from o a ++ text_from o' b ≡ text_from o (a ++ b)
text_joined o o' a b e = ap (λ r. text_from o a ++ text_after (event_before r) b) e ∙ sym (text_then o.in_row a b)

pub wrote_nothing : (o : Output) → Wrote o o []
wrote_nothing o = record { text = adds_nothing o.written o.pending; row = refl; faults = omega arith }

pub wrote_then : (o o' o'' : Output) (a b : List Event) → Wrote o o' a → Wrote o' o'' b → Wrote o o'' (a ++ b)
wrote_then o o' o'' a b h k = record {
  text = subst (λ t. Adds o.written o''.written o.pending o''.pending t) (text_joined o o' a b h.row)
      (adds_then o.written o'.written o''.written o.pending o'.pending o''.pending (text_from o a) (text_from o' b) h.text k.text);
  row = k.row ∙ ap (λ r. row_after r b) h.row ∙ sym (row_then o.in_row a b);
  faults = omega (arith, h.faults, k.faults);
}

pub cut_off_then : (o o' o'' : Output) (a b : List Event) → Wrote o o' a → CutsOff o' o'' b → CutsOff o o'' (a ++ b)
cut_off_then o o' o'' a b h k = record {
  cut = subst (λ t. IsCut o.written o''.written o.pending t) (text_joined o o' a b h.row)
      (cut_then o.written o'.written o''.written o.pending o'.pending (text_from o a) (text_from o' b) h.text k.cut);
  rose = rose_earlier o.faults o'.faults o''.faults h.faults k.rose;
  faults = omega (arith, h.faults, k.faults);
}

pub cut_off_before : (o o' : Output) (a b : List Event) → CutsOff o o' a → CutsOff o o' (a ++ b)
cut_off_before o o' a b h = record {
  cut = subst (λ t. IsCut o.written o'.written o.pending t) (sym (text_then o.in_row a b))
      (cut_before o.written o'.written o.pending (text_from o a) (text_after (event_before (row_after o.in_row a)) b) h.cut);
  rose = h.rose;
  faults = h.faults;
}
