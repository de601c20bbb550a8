-- One query after the other, and one sibling of two. Assumes nothing.
use mathlib.Core.Path.{◌≡◌, sym, ap, ap₂, ◌∙◌}
use mathlib.Core.Bool.{Bool, cond}
use mathlib.Core.List.{List}
use Prim.Native.Nat.{ℕ, suc, ◌+◌, ◌*◌, ◌<◌, ◌≤◌}
use native.Mathlib.Nat.{mul-suc}
use native.Mathlib.Numerals.{add-one}
use native.Mathlib.Omega.{arith}
use lib.ListN.{length, get_or, drop, length-drop, drop_of_length-le}
use lib.Seq.{drop-cons}
use Rattle.algebra.specs.Lists.{put}
use Rattle.hash_parts.specs.Queries.{put_each}

module _ (b : ℕ → Bool) (x : ℕ → List ℕ) (s : ℕ) where
  pub each_turn : (us : List ℕ) (k at : ℕ) (o : List ℕ) {q r : List ℕ} → k < length us → q ≡ cond (b (get_or us k 0)) (put at (x (get_or us k 0)) o) o
      → put_each b x s (drop k us) at o ≡ r → put_each b x s (drop (k + 1) us) (at + s) q ≡ r
  unfolding put_each
  each_turn us k at o h e p =
      ap₂ (λ i q. put_each b x s (drop i us) (at + s) q) (add-one k) e
      ∙ sym (ap (λ l. put_each b x s l at o) (drop-cons us k 0 h))
      ∙ p

  pub each_end : (us : List ℕ) (k at : ℕ) (o : List ℕ) {r : List ℕ} → length us ≤ k → put_each b x s (drop k us) at o ≡ r → o ≡ r
  unfolding put_each
  each_end us k at o h p = sym (ap (λ l. put_each b x s l at o) (drop_of_length-le us h)) ∙ p

-- the room that the queries from k on take
pub turn_room : (us : List ℕ) (s k : ℕ) → k < length us → s * length (drop k us) ≡ s + s * length (drop (k + 1) us)
turn_room us s k h =
    let n : length (drop k us) ≡ suc (length (drop (k + 1) us)) = simp length-drop (omega arith) in
    ap (λ i. s * i) n ∙ mul-suc s (length (drop (k + 1) us)) ∙ omega arith
