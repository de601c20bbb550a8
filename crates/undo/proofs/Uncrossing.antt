-- The loop over a level of a column: both halves become the values at 0 and the slopes of their lines. Assumes nothing.
use mathlib.Core.Path.{◌≡◌, refl, sym, ap₂, ◌∙◌}
use mathlib.Core.List.{List, ◌++◌}
use Prim.Native.Nat.{ℕ, ◌+◌, ◌*◌, ◌<◌, ◌≤◌}
use native.Mathlib.Omega.{arith}
use lib.ListN.{length, take, drop, get_or, set, length-take, length-drop, take-append-drop}
use lib.Seq.{get_or-take, get_or-drop, take-set-lt, drop-set-lt}
use Rattle.algebra.specs.Words.{PrimeField}
use Rattle.algebra.specs.Lists.{row, length_row, get_or_row}
use Rattle.algebra.specs.Paired.{Paired, paired_none, paired_left, paired_right, paired_turn, paired_end}
use Rattle.undo.proofs.Places.{get_or_behind}
use Rattle.undo.specs.Steps.{LevelLent, slope_at, start_at, uncrossed}

module _ (𝓕 : PrimeField) where
  infixl 65 ◌⊟◌
  infixl 70 ◌⊠◌
  open 𝓕 use {modulus as P, field as F, words as W}
  open F use {ring as K}
  open K use {◌*◌ as ◌⊠◌, ◌-◌ as ◌⊟◌}
  open W use {el, val as word}

  -- before turn i
  pub record UncrossedTo (n a c : ℕ) (t o : List ℕ) (i : ℕ) (w : List ℕ) : Type 0 where
    pub front : Paired i (row n (start_at 𝓕 n a c t o)) (row n (slope_at 𝓕 n a o)) (take n (take (n + n) o)) (drop n (take (n + n) o)) (take (n + n) w)
    pub rest : drop (n + n) w ≡ drop (n + n) o

  module _ (n a c : ℕ) (t o : List ℕ) (𝓤 : LevelLent 𝓕 n a c t o) where
    long : length (take (n + n) o) ≡ n + n
    long = let b = 𝓤.behind in let w = 𝓤.within in length-take (n + n) o ∙ omega arith

    ll : length (take n (take (n + n) o)) ≡ n
    ll = length-take n (take (n + n) o) ∙ omega (arith, long)

    lr : length (drop n (take (n + n) o)) ≡ n
    lr = length-drop n (take (n + n) o) ∙ omega (arith, long)

    pub uncross_none : UncrossedTo n a c t o 0 o
    uncross_none = record { front = paired_none _ _ (take (n + n) o) n; rest = refl }

    module _ (i : ℕ) (w : List ℕ) (h : i < n) (p : UncrossedTo n a c t o i w) where
      -- what is read is as it was
      pub left_is : get_or w i 0 ≡ get_or o i 0
      left_is =
          sym (get_or-take (n + n) w i 0 (omega arith)) ∙ paired_left n ll lr 0 h p.front
          ∙ get_or-take n (take (n + n) o) i 0 h ∙ get_or-take (n + n) o i 0 (omega arith)

      pub right_is : get_or w (n + i) 0 ≡ get_or o (n + i) 0
      right_is =
          sym (get_or-take (n + n) w (n + i) 0 (omega arith)) ∙ paired_right n ll lr 0 p.front
          ∙ get_or-drop n (take (n + n) o) i 0 ∙ get_or-take (n + n) o (n + i) 0 (omega arith)

      pub inverse_is : get_or w (a + i) 0 ≡ get_or o (a + i) 0
      inverse_is = let b = 𝓤.behind in get_or_behind (n + n) (a + i) w o (omega arith) p.rest

      pub uncross_low : (get_or w (a + i) 0 < P) × (get_or w i 0 < P) × (get_or w (n + i) 0 < P)
      uncross_low =
          let b = 𝓤.behind in
          let e = 𝓤.within in
          (rw inverse_is (𝓤.block.low (a + i) (omega arith)), rw left_is (𝓤.block.low i (omega arith)), rw right_is (𝓤.block.low (n + i) (omega arith)))

      pub uncross_turn : (q r s : ℕ) → q ≡ i * c → r ≡ word (el (get_or w (a + i) 0) ⊠ (el (get_or w (n + i) 0) ⊟ el (get_or w i 0)))
          → s ≡ word (el (get_or w i 0) ⊟ el (get_or t q 0) ⊠ el r) → UncrossedTo n a c t o (i + 1) (set (set w i s) (n + i) r)
      uncross_turn q r s e f g =
          let r_is : r ≡ slope_at 𝓕 n a o i = f ∙ (λ k. word (el (inverse_is k) ⊠ (el (right_is k) ⊟ el (left_is k)))) in
          let s-is : s ≡ start_at 𝓕 n a c t o i = g ∙ (λ k. word (el (left_is k) ⊟ el (get_or t (e k) 0) ⊠ el (r_is k))) in
          record {
            front = rw (take-set-lt (n + n) (set w i s) (n + i) r (omega arith), take-set-lt (n + n) w i s (omega arith))
                (paired_turn n ll lr 0 h (length_row n _) (length_row n _) p.front (s-is ∙ sym (get_or_row n (start_at 𝓕 n a c t o) i 0 h)) (r_is ∙ sym (get_or_row n (slope_at 𝓕 n a o) i 0 h)));
            rest = drop-set-lt (n + n) (set w i s) (n + i) r (omega arith) ∙ drop-set-lt (n + n) w i s (omega arith) ∙ p.rest;
          }

    pub uncross_end : (i : ℕ) (w : List ℕ) → n ≤ i → UncrossedTo n a c t o i w → w ≡ uncrossed 𝓕 n a c t o
    unfolding uncrossed
    uncross_end i w h p =
        sym (take-append-drop (n + n) w) ∙ ap₂ ◌++◌ (paired_end n ll lr h (length_row n _) (length_row n _) p.front) p.rest
