-- A reader of one token at a time is exact, if its states can say what completes them, within the depths
-- and without limits. Each step of the reader goes along a completion, and back.
use Rattle.std.proofs.lemmas.Bool.{cases_Bool}
use Rattle.std.proofs.Common.{◌≡◌, List, [], ◌∷◌, ◌++◌, inl, inr, Option, Some, None, true, false, cond, refl, sym, ap, subst, ◌∙◌, append_assoc}
use Rattle.exact_reader.specs.Exactness.{Language, GoesNowhere, GoesDeeper, StopsAt, Outcome, Read, Syntax, TooDeep, IsExact, Reader, outcome_at_end, outcome_of_step, run}
use Rattle.exact_reader.proofs.Limited.{Limits, Free, Within}

pub record Laws {Token : Type 0} (language : Language Token) (reader : Reader Token language.Tree) : Type 1 where
  -- these tokens complete the state to a sentence with this tree, within the depths or without limits
  pub Completes : Limits → reader.State → language.Tree → List Token → Type 0
  -- the state is one that the reader may come to
  pub IsReachable : reader.State → Type 0
  -- some completion is within the depths
  pub WithinDepth : Limits → reader.State → Type 0
  pub free : (s : reader.State) → WithinDepth Free s
  pub forward : (l : Limits) (s : reader.State) (tree : language.Tree) (t : Token) (x : List Token) → IsReachable s → Completes l s tree (t ∷ x) → (n : reader.State) × ((reader.step s t ≡ Some n) × Completes l n tree x)
  pub reachable : (s : reader.State) (t : Token) (n : reader.State) → IsReachable s → reader.step s t ≡ Some n → IsReachable n
  pub back : (l : Limits) (s : reader.State) (t : Token) (n : reader.State) (tree : language.Tree) (x : List Token) → IsReachable s → WithinDepth l s → reader.step s t ≡ Some n → Completes l n tree x → Completes l s tree (t ∷ x)
  pub ended : (l : Limits) (s : reader.State) (tree : language.Tree) → IsReachable s → Completes l s tree [] → reader.finish s ≡ Some tree
  pub ends : (l : Limits) (s : reader.State) (tree : language.Tree) → IsReachable s → WithinDepth l s → reader.finish s ≡ Some tree → Completes l s tree []
  pub completion : (l : Limits) (s : reader.State) → IsReachable s → WithinDepth l s → (tree : language.Tree) × ((x : List Token) × Completes l s tree x)
  pub within_depth : (s : reader.State) (tree : language.Tree) (x : List Token) → Completes Within s tree x → reader.is_within_depth s ≡ true
  pub within_depth_step : (s : reader.State) (t : Token) (n : reader.State) → WithinDepth Within s → reader.step s t ≡ Some n → reader.is_within_depth n ≡ true → WithinDepth Within n

-- a state that whole sentences complete: all of them, and those within the depths within the depths
pub record IsStart {Token : Type 0} (language : Language Token) (reader : Reader Token language.Tree) (laws : Laws language reader) (start : reader.State) : Type 0 where
  pub reachable : laws.IsReachable start
  pub within_depth : laws.WithinDepth Within start
  pub sentence : (tree : language.Tree) (x : List Token) → laws.Completes Free start tree x → language.IsSentence x tree
  pub completes : (tree : language.Tree) (x : List Token) → language.IsSentence x tree → laws.Completes Free start tree x
  pub sentence_within : (tree : language.Tree) (x : List Token) → laws.Completes Within start tree x → language.IsSentence x tree × language.IsWithin tree
  pub completes_within : (tree : language.Tree) (x : List Token) → language.IsSentence x tree → language.IsWithin tree → laws.Completes Within start tree x

module _ {Token : Type 0} (language : Language Token) (reader : Reader Token language.Tree) (laws : Laws language reader) where
  same_next : (s : reader.State) (t : Token) (n m : reader.State) → reader.step s t ≡ Some n → reader.step s t ≡ Some m → n ≡ m
  same_next s t n m e f = let i : Some n ≡ Some m = sym e ∙ f in cc

  -- the completion of a state is one of that which it goes to
  forward_to : (l : Limits) (s : reader.State) (t : Token) (n : reader.State) (tree : language.Tree) (x : List Token) → laws.IsReachable s → reader.step s t ≡ Some n → laws.Completes l s tree (t ∷ x) → laws.Completes l n tree x
  forward_to l s t n tree x o e h =
      let f = laws.forward l s tree t x o h in
      subst (λ (m : reader.State). laws.Completes l m tree x) (same_next s t f.0 n f.1.0 e) f.1.1

  abbrev Nowhere : reader.State → List Token → List Token → Type 0
  Nowhere s x [] = (tree : language.Tree) → laws.Completes Free s tree x → ⊥
  Nowhere s x (t ∷ rest) = (tree : language.Tree) (more : List Token) → laws.Completes Free s tree (x ++ t ∷ more) → ⊥

  abbrev Deeper : reader.State → List Token → List Token → Type 0
  Deeper s x [] = ⊥
  Deeper s x (t ∷ rest) =
      ((tree : language.Tree) × ((more : List Token) × laws.Completes Free s tree (x ++ t ∷ more))) × ((tree : language.Tree) (more : List Token) → laws.Completes Within s tree (x ++ t ∷ more) → ⊥)

  record Stops (s : reader.State) (toks rest : List Token) (how : List Token → Type 0) : Type 0 where
    pub before : List Token
    pub parts : toks ≡ before ++ rest
    pub more : List Token
    pub tree : language.Tree
    pub completes : laws.Completes Within s tree (before ++ more)
    pub stops : how before

  abbrev Says : reader.State → List Token → Outcome Token language.Tree → Type 0
  Says s toks (Read tree) = laws.Completes Within s tree toks
  Says s toks (Syntax rest) = Stops s toks rest (λ x. Nowhere s x rest)
  Says s toks (TooDeep rest) = Stops s toks rest (λ x. Deeper s x rest)

  -- one token back
  nowhere_back : (s : reader.State) (t : Token) (n : reader.State) (x rest : List Token) → laws.IsReachable s → reader.step s t ≡ Some n → Nowhere n x rest → Nowhere s (t ∷ x) rest
  nowhere_back s t n x [] o e h = λ tree c. h tree (forward_to Free s t n tree x o e c)
  nowhere_back s t n x (a ∷ rest) o e h = λ tree more c. h tree more (forward_to Free s t n tree (x ++ a ∷ more) o e c)

  deeper_back : (s : reader.State) (t : Token) (n : reader.State) (x rest : List Token) → laws.IsReachable s → reader.step s t ≡ Some n → Deeper n x rest → Deeper s (t ∷ x) rest
  deeper_back s t n x [] o e h = h
  deeper_back s t n x (a ∷ rest) o e h =
      ((h.0.0, (h.0.1.0, laws.back Free s t n h.0.0 (x ++ a ∷ h.0.1.0) o (laws.free s) e h.0.1.1)), λ tree more c. h.1 tree more (forward_to Within s t n tree (x ++ a ∷ more) o e c))

  stops_back : (s : reader.State) (t : Token) (n : reader.State) (x rest : List Token) (how next : List Token → Type 0) → laws.IsReachable s → laws.WithinDepth Within s → reader.step s t ≡ Some n → ((y : List Token) → next y → how (t ∷ y))
      → Stops n x rest next → Stops s (t ∷ x) rest how
  stops_back s t n x rest how next o w e f h =
      record {
        before = t ∷ h.before;
        parts = ap (λ (y : List Token). t ∷ y) h.parts;
        more = h.more;
        tree = h.tree;
        completes = laws.back Within s t n h.tree (h.before ++ h.more) o w e h.completes;
        stops = f h.before h.stops;
      }

  says_back : (s : reader.State) (t : Token) (n : reader.State) (x : List Token) (o : Outcome Token language.Tree) → laws.IsReachable s → laws.WithinDepth Within s → reader.step s t ≡ Some n → Says n x o → Says s (t ∷ x) o
  says_back s t n x (Read tree) o w e h = laws.back Within s t n tree x o w e h
  says_back s t n x (Syntax rest) o w e h = stops_back s t n x rest (λ y. Nowhere s y rest) (λ y. Nowhere n y rest) o w e (λ y k. nowhere_back s t n y rest o e k) h
  says_back s t n x (TooDeep rest) o w e h = stops_back s t n x rest (λ y. Deeper s y rest) (λ y. Deeper n y rest) o w e (λ y k. deeper_back s t n y rest o e k) h

  here : (s : reader.State) (x : List Token) (how : List Token → Type 0) → laws.IsReachable s → laws.WithinDepth Within s → how [] → Stops s x x how
  here s x how o f h =
      let c = laws.completion Within s o f in
      record { before = []; parts = refl; more = c.1.0; tree = c.0; completes = c.1.1; stops = h }

  by_step : (s : reader.State) (t : Token) (x : List Token) (g : Option reader.State) → reader.step s t ≡ g → laws.IsReachable s → laws.WithinDepth Within s
      → ((n : reader.State) → laws.IsReachable n → laws.WithinDepth Within n → Says n x (run reader n x))
      → Says s (t ∷ x) (outcome_of_step g (λ n. cond (reader.is_within_depth n) (run reader n x) (TooDeep (t ∷ x))) (t ∷ x))
  by_step s t x None e o f next =
      here s (t ∷ x) (λ y. Nowhere s y (t ∷ x)) o f (λ tree more c. let v = laws.forward Free s tree t more o c in let i : None ≡ Some v.0 = sym e ∙ v.1.0 in absurd cc)
  by_step s t x (Some n) e o f next =
      let st = laws.reachable s t n o e in
      elim (cases_Bool (reader.is_within_depth n)) [
        | inl b ↦ rw b (says_back s t n x (run reader n x) o f e (next n st (laws.within_depth_step s t n f e b)))
        | inr b ↦
            let c = laws.completion Free n st (laws.free n) in
            rw b (here s (t ∷ x) (λ y. Deeper s y (t ∷ x)) o f (
              (c.0, (c.1.0, laws.back Free s t n c.0 c.1.0 o (laws.free s) e c.1.1)),
              λ tree more k. let i : true ≡ false = sym (laws.within_depth n tree more (forward_to Within s t n tree more o e k)) ∙ b in absurd cc,
            ))
      ]

  at_end : (s : reader.State) (g : Option language.Tree) → reader.finish s ≡ g → laws.IsReachable s → laws.WithinDepth Within s → Says s [] (outcome_at_end g)
  at_end s (Some tree) e o f = laws.ends Within s tree o f e
  at_end s None e o f = here s [] (λ y. Nowhere s y []) o f (λ tree c. let i : None ≡ Some tree = sym e ∙ laws.ended Free s tree o c in absurd cc)

  says : (x : List Token) (s : reader.State) → laws.IsReachable s → laws.WithinDepth Within s → Says s x (run reader s x)
  says [] s o f = at_end s (reader.finish s) refl o f
  says (t ∷ x) s o f = by_step s t x (reader.step s t) refl o f (λ n st g. says x n st g)

  -- what completes a state within the depths is read
  reads : (x : List Token) (s : reader.State) (tree : language.Tree) → laws.IsReachable s → laws.Completes Within s tree x → run reader s x ≡ Read tree
  reads [] s tree o h = rw (laws.ended Within s tree o h) refl
  reads (t ∷ x) s tree o h =
      let f = laws.forward Within s tree t x o h in
      rw (f.1.0, laws.within_depth f.0 tree x f.1.1) (reads x f.0 tree (laws.reachable s t f.0 o f.1.0) f.1.1)

  -- one tree completes a state, whatever its depths
  one_completion : (x : List Token) (s : reader.State) (tree other : language.Tree) → laws.IsReachable s → laws.Completes Free s tree x → laws.Completes Free s other x → tree ≡ other
  one_completion [] s tree other o h k = let i : Some tree ≡ Some other = sym (laws.ended Free s tree o h) ∙ laws.ended Free s other o k in cc
  one_completion (t ∷ x) s tree other o h k =
      let f = laws.forward Free s tree t x o h in
      one_completion x f.0 tree other (laws.reachable s t f.0 o f.1.0) f.1.1 (forward_to Free s t f.0 other x o f.1.0 k)

  -- ---- from the start, where the completions are the sentences

  module _ (start : reader.State) (from : IsStart language reader laws start) where
    completes_of : (x : List Token) (t : Token) (more : List Token) (tree : language.Tree) → language.IsSentence ((x ++ t ∷ []) ++ more) tree → laws.Completes Free start tree (x ++ t ∷ more)
    completes_of x t more tree h = from.completes tree (x ++ t ∷ more) (subst (λ (y : List Token). language.IsSentence y tree) (append_assoc x (t ∷ []) more) h)

    completes_within_of : (x : List Token) (t : Token) (more : List Token) (tree : language.Tree) → language.IsSentence ((x ++ t ∷ []) ++ more) tree → language.IsWithin tree → laws.Completes Within start tree (x ++ t ∷ more)
    completes_within_of x t more tree h w = from.completes_within tree (x ++ t ∷ more) (subst (λ (y : List Token). language.IsSentence y tree) (append_assoc x (t ∷ []) more) h) w

    nowhere_of : (x rest : List Token) → Nowhere start x rest → GoesNowhere language x rest
    nowhere_of x [] h = λ tree k. h tree (from.completes tree x k)
    nowhere_of x (t ∷ rest) h = λ b. h b.tree b.more (completes_of x t b.more b.tree b.sentence)

    deeper_of : (x rest : List Token) → Deeper start x rest → GoesDeeper language x rest
    deeper_of x [] h = h
    deeper_of x (t ∷ rest) h = (
      record {
        more = h.0.1.0;
        tree = h.0.0;
        sentence = subst (λ (y : List Token). language.IsSentence y h.0.0) (sym (append_assoc x (t ∷ []) h.0.1.0)) (from.sentence h.0.0 (x ++ t ∷ h.0.1.0) h.0.1.1);
      },
      λ b. h.1 b.tree b.more (completes_within_of x t b.more b.tree b.sentence b.within),
    )

    stops_of : (toks rest : List Token) (how : List Token → Type 0) (stops : List Token → List Token → Type 0) → ((x : List Token) → how x → stops x rest) → Stops start toks rest how → StopsAt language stops toks rest
    stops_of toks rest how stops f h =
        let b = from.sentence_within h.tree (h.before ++ h.more) h.completes in
        record {
          before = h.before;
          parts = h.parts;
          begins = record { more = h.more; tree = h.tree; sentence = b.0; within = b.1 };
          stops = f h.before h.stops;
        }

    exact_of : (toks : List Token) (o : Outcome Token language.Tree) → Says start toks o → IsExact language toks o
    exact_of toks (Read tree) h = from.sentence_within tree toks h
    exact_of toks (Syntax rest) h = stops_of toks rest (λ x. Nowhere start x rest) (GoesNowhere language) (λ x k. nowhere_of x rest k) h
    exact_of toks (TooDeep rest) h = stops_of toks rest (λ x. Deeper start x rest) (GoesDeeper language) (λ x k. deeper_of x rest k) h

    pub exact : (toks : List Token) → IsExact language toks (run reader start toks)
    exact toks = exact_of toks (run reader start toks) (says toks start from.reachable from.within_depth)

    -- each sentence within the depths is read, with its tree
    pub sentences_are_read : (toks : List Token) (tree : language.Tree) → language.IsSentence toks tree → language.IsWithin tree → run reader start toks ≡ Read tree
    sentences_are_read toks tree h w = reads toks start tree from.reachable (from.completes_within tree toks h w)

    -- tokens are a sentence with one tree, whatever its depths
    pub one_tree : (toks : List Token) (tree other : language.Tree) → language.IsSentence toks tree → language.IsSentence toks other → tree ≡ other
    one_tree toks tree other h k = one_completion toks start tree other from.reachable (from.completes tree toks h) (from.completes other toks k)
