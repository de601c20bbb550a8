-- One number more of the list that stands from a place on. Assumes nothing.
use mathlib.Core.Path.{◌≡◌, refl, sym, ap, ◌∙◌}
use mathlib.Core.List.{List}
use Prim.Native.Nat.{ℕ, ◌+◌, ◌<◌}
use lib.ListN.{get_or}
use Rattle.cursor.specs.Walk.{entry, listed, after}
use Rattle.cursor.specs.Laws.{after_split, listed_at}

pub after_none : (bs : List ℕ) (at : ℕ) → at ≡ after 0 bs at
unfolding after
after_none bs at = refl

module _ (bs : List ℕ) (at i : ℕ) {here v next : ℕ} (place : here ≡ after i bs at) (e : (v, next) ≡ entry bs here) where
  -- what was read is the number with index i, and the place after it is where the others stand
  pub value_turn : (n : ℕ) → i < n → v ≡ get_or (listed n bs at) i 0
  value_turn n h = ap (λ p. p.0) e ∙ ap (λ q. (entry bs q).0) place ∙ sym (listed_at n i bs at h)

  pub after_turn : next ≡ after (i + 1) bs at
  unfolding after
  after_turn = ap (λ p. p.1) e ∙ ap (λ q. (entry bs q).1) place ∙ sym (after_split i 1 bs at)

pub after_end : (bs : List ℕ) (at : ℕ) {i n here : ℕ} → i ≡ n → here ≡ after i bs at → here ≡ after n bs at
after_end bs at e place = place ∙ ap (λ k. after k bs at) e
