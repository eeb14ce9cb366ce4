-- Each step keeps what holds of the words.
use Rattle.std.proofs.Common.{◌≡◌, ◌≢◌, ℕ, ◌≤◌, List, [], ◌∷◌, ◌++◌, set, slice_index, max, true, false, true≢false, refl, sym, ap, ◌∙◌, subst, ⊎_elim, arith}
use mathlib.Core.Option.{some}
use lib.ListN.{get_elem?}
use Rattle.atomic_table.specs.Table.{Me, keeps, Allows, Enters, Splits}
use Rattle.atomic_table.proofs.Lists.{at_set, at_snoc, set_again}
use Rattle.split_state.specs.declared.seat_view.SeatView.{SeatView}
use Rattle.split_state.specs.CursorRule.{worker, stepped, IsSeated, IsKept, IsDrawn, IsSeen, IsRaised, IsEntered}

-- what holds of each seat
abbrev Each : ℕ → ℕ → ℕ → List SeatView → Type 0
Each n owner done views = (seat : ℕ) (v : SeatView) → get_elem? views seat ≡ some v → IsSeated n owner done seat v

each_same : (n owner done : ℕ) (views : List SeatView) (id : ℕ) (v : SeatView) → get_elem? views id ≡ some v → Each n owner done views → Each n owner done (set views id v)
each_same n owner done views id v at h = subst (Each n owner done) (sym (set_again views id v at)) h

each_set : (n owner done now : ℕ) (views : List SeatView) (id : ℕ) (w : SeatView) → ((j : ℕ) (u : SeatView) → j ≢ id → get_elem? views j ≡ some u → IsSeated n owner now j u) → IsSeated n owner now id w → Each n owner now (set views id w)
each_set n owner done now views id w others mine j u e =
    ⊎_elim
    (λ (x : (j ≡ id) × (w ≡ u)). subst (λ (y : ℕ × SeatView). IsSeated n owner now y.0 y.1) (λ i. (sym x.0 i, x.1 i)) mine)
    (λ (x : (j ≢ id) × (get_elem? views j ≡ some u)). others j u x.0 x.1)
    (at_set views id j w u e)

each_snoc : (n owner done : ℕ) (views : List SeatView) (w : SeatView) → Each n owner done views → ((j : ℕ) → IsSeated n owner done j w) → Each n owner done (views ++ w ∷ [])
each_snoc n owner done views w h mine j u e =
    ⊎_elim
    (λ (was : get_elem? views j ≡ some u). h j u was)
    (λ (same : w ≡ u). subst (IsSeated n owner done j) same (mine j))
    (at_snoc views w u j e)

off : false ≡ true → ⊥
off e = true≢false (sym e)

module _ {S : Type 0} where
  -- the words execute and validate may become anything
  pub draws_execute : (n slots id : ℕ) (me : Me S SeatView) (k : ℕ) (f : ℕ → ℕ) → Allows (IsKept n) slots id me 0 f (IsDrawn 0 k me)
  draws_execute n slots id me k f s h len at small = (
    stepped me.0.seen me.0 0 k (slice_index s.words 0),
    keeps,
    tt,
    record {
      execute = f (slice_index s.words 0);
      validate = h.validate;
      done = h.done;
      owner = h.owner;
      are = ap (λ ws. set ws 0 (f (slice_index s.words 0))) h.are;
      within = h.within;
      each = each_set n h.owner h.done h.done s.views id _ (λ j u _ e. h.each j u e) (let m = h.each id me.0 at in record { messages = m.messages; below = m.below; owns = m.owns });
    },
    refl,
  )

  pub draws_validate : (n slots id : ℕ) (me : Me S SeatView) (k : ℕ) (f : ℕ → ℕ) → Allows (IsKept n) slots id me 1 f (IsDrawn 1 k me)
  draws_validate n slots id me k f s h len at small = (
    stepped me.0.seen me.0 1 k (slice_index s.words 1),
    keeps,
    tt,
    record {
      execute = h.execute;
      validate = f (slice_index s.words 1);
      done = h.done;
      owner = h.owner;
      are = ap (λ ws. set ws 1 (f (slice_index s.words 1))) h.are;
      within = h.within;
      each = each_set n h.owner h.done h.done s.views id _ (λ j u _ e. h.each j u e) (let m = h.each id me.0 at in record { messages = m.messages; below = m.below; owns = m.owns });
    },
    refl,
  )

  pub sees : (n slots id : ℕ) (me : Me S SeatView) → Allows (IsKept n) slots id me 2 (λ x. x) (IsSeen 2 0 me)
  sees n slots id me s h len at small =
      let d : ℕ = slice_index s.words 2 in
      let is : d ≡ h.done = ap (λ ws. slice_index ws 2) h.are in
      let mine = h.each id me.0 at in
      let w = stepped d me.0 2 0 d in (
        w,
        keeps,
        tt,
        record {
          execute = h.execute;
          validate = h.validate;
          done = h.done;
          owner = h.owner;
          are = ap (λ ws. set ws 2 (slice_index ws 2)) h.are;
          within = h.within;
          each =
              each_set n h.owner h.done h.done s.views id w (λ j u _ e. h.each j u e)
              (record { messages = mine.messages; below = omega (arith, is); owns = λ p. ((mine.owns p).0, is) });
        },
        (omega (arith, is, mine.below), omega (arith, is, h.within, mine.messages), refl),
      )

  pub raises : (n slots id : ℕ) (me : Me S SeatView) (k : ℕ) → me.0.publishes ≡ true → k ≤ me.0.messages → Allows (IsKept n) slots id me 2 (λ x. max x k) (IsRaised 2 k me)
  raises n slots id me k owns few s h len at small =
      let d : ℕ = slice_index s.words 2 in
      let is : d ≡ h.done = ap (λ ws. slice_index ws 2) h.are in
      let mine = h.each id me.0 at in
      let own = mine.owns owns in
      let w = stepped (max me.0.seen k) me.0 2 k d in
      let top : ℕ = max d k in
      let same : max me.0.seen k ≡ top = omega (arith, is, own.1) in (
        w,
        keeps,
        tt,
        record {
          execute = h.execute;
          validate = h.validate;
          done = top;
          owner = h.owner;
          are = ap (λ ws. set ws 2 top) h.are;
          within = omega (arith, is, h.within, few, mine.messages);
          each =
              each_set n h.owner h.done top s.views id w
              (λ j u apart e.
              let theirs = h.each j u e in
              record {
                messages = theirs.messages;
                below = omega (arith, is, theirs.below);
                owns = λ p. absurd (apart ((theirs.owns p).0 ∙ sym own.0));
              })
              (record { messages = mine.messages; below = omega (arith, same); owns = λ p. (own.0, same) });
        },
        (is ∙ sym own.1, refl),
      )

  pub splits : (n id : ℕ) (v : SeatView) → Splits (IsKept {S = S} n) id v v (worker v)
  splits n id v s h at =
      let mine = h.each id v at in
      record {
        execute = h.execute;
        validate = h.validate;
        done = h.done;
        owner = h.owner;
        are = h.are;
        within = h.within;
        each =
            each_snoc n h.owner h.done (set s.views id v) (worker v) (each_same n h.owner h.done s.views id v at h.each)
            (λ j. record { messages = mine.messages; below = mine.below; owns = λ p. absurd (off p) });
      }

  pub enters : (n slots : ℕ) → Enters (IsKept {S = S} n) slots 2 (λ found w. IsEntered {S = S} found (w, []))
  enters n slots s h len small =
      let d : ℕ = slice_index s.words 2 in
      let is : d ≡ h.done = ap (λ ws. slice_index ws 2) h.are in
      let w : SeatView = record { messages = n; seen = d; publishes = false; steps = 0; word = 0; given = 0; found = 0 } in (
        w,
        record {
          execute = h.execute;
          validate = h.validate;
          done = h.done;
          owner = h.owner;
          are = h.are;
          within = h.within;
          each = each_snoc n h.owner h.done s.views w h.each (λ j. record { messages = refl; below = omega (arith, is); owns = λ p. absurd (off p) });
        },
        (refl, omega (arith, is, h.within), refl),
      )
