-- One piece more of what is read and of what is written.
use Rattle.std.proofs.Common.{◌≡◌, ℕ, ◌+◌, ◌≤◌, List, ◌++◌, length, take, drop, Option, Some, None}
use Rattle.std.proofs.Common.{arith, sym, ap, subst, ◌∙◌, append_assoc, length-drop}
use Rattle.std.proofs.Math.Seq.{take-add}
use Rattle.std.proofs.lemmas.List.{drop-drop}
use Rattle.strm_io.specs.Reading.{TakesPrefix}
use Rattle.strm_io.specs.Writing.{Appends}

-- two prefixes, taken one after the other, are one prefix
pub taken_twice : (before middle after : Option (List ℕ)) (m n : ℕ) (bytes more : List ℕ) →
    TakesPrefix before middle m bytes → TakesPrefix middle after n more →
    TakesPrefix before after (m + n) (bytes ++ more)
taken_twice None middle after m n bytes more first second = tt
taken_twice (Some left) None after m n bytes more first second = cc
taken_twice (Some left) (Some rest) after m n bytes more first second =
    let rest-is : rest ≡ drop m left = cc in
    let next = subst (λ (l : List ℕ). TakesPrefix (Some l) after n more) rest-is second in
    let within : m + n ≤ length left = omega (arith, first.0, next.0, length-drop m left) in
    let prefix : bytes ++ more ≡ take (m + n) left =
    ap (λ l. l ++ more) first.1
    ∙ ap (λ l. take m left ++ l) next.1
    ∙ sym (take-add m n left) in
    (within, prefix, next.2 ∙ ap Some (drop-drop n m left))

-- two parts of a list, written one after the other, are a prefix of it
pub appended_twice : (before middle after : Option (List ℕ)) (bytes : List ℕ) (m n : ℕ) →
    Appends before middle (take m bytes) → Appends middle after (take n (drop m bytes)) →
    Appends before after (take (m + n) bytes)
appended_twice None middle after bytes m n first second = tt
appended_twice (Some written) None after bytes m n first second = cc
appended_twice (Some written) (Some longer) after bytes m n first second =
    let next = take n (drop m bytes) in
    let longer-is : longer ≡ written ++ take m bytes = cc in
    second
    ∙ ap (λ l. Some (l ++ next)) longer-is
    ∙ ap Some (append_assoc written (take m bytes) next ∙ ap (λ l. written ++ l) (sym (take-add m n bytes)))
