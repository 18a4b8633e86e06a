-- How far observations are is an order.
use Rattle.std.proofs.Common.{◌≡◌, inl, inr, List, [], ◌∷◌, ◌++◌, length, refl, sym, ap, subst, ◌∙◌, arith, append_assoc, length-append}
use Rattle.list_denotation.specs.declared.event.Event.{Event}
use Rattle.list_denotation.specs.Observation.{Seen}
use Rattle.list_denotation.specs.Far.{Far}

pub far_trans : (o u w : Seen) → Far o u → Far u w → Far o w
far_trans o u w (inl e) h = subst (λ v. Far v w) (sym e) h
far_trans o u w (inr g) (inl e) = subst (λ v. Far o v) e (inr g)
far_trans o u w (inr g) (inr h) = inr (record {
  going = g.going;
  rest = g.rest ++ h.rest;
  prefix = h.prefix ∙ ap (λ es. es ++ h.rest) g.prefix ∙ append_assoc o.events g.rest h.rest;
})

seen_same : (o u : Seen) → o.events ≡ u.events → o.standing ≡ u.standing → o ≡ u
seen_same o u e s = λ i. record { events = e i; standing = s i }

-- what is the same with more before and behind it, has nothing behind it
none_behind : (es more behind : List Event) → es ≡ (es ++ more) ++ behind → es ≡ es ++ more
none_behind es [] behind h = sym (append_none es)
  where
    append_none : (xs : List Event) → xs ++ [] ≡ xs
    append_none [] = refl
    append_none (x ∷ xs) = ap (λ l. x ∷ l) (append_none xs)
none_behind es (m ∷ more) behind h =
    absurd (omega (arith, ap length h, length-append (es ++ m ∷ more) behind, length-append es (m ∷ more)))

pub far_same : (o u : Seen) → Far o u → Far u o → o ≡ u
far_same o u (inl e) h = e
far_same o u (inr g) (inl e) = sym e
far_same o u (inr g) (inr h) =
    let both : o.events ≡ (o.events ++ g.rest) ++ h.rest = h.prefix ∙ ap (λ es. es ++ h.rest) g.prefix in
    seen_same o u (none_behind o.events g.rest h.rest both ∙ sym g.prefix) (g.going ∙ sym h.going)
