-- The message schedule as the standard has it, and rounds one by one. Assumes nothing.
use Rattle.std.specs.Prelude.{◌≡◌, List, get_or}
use Rattle.std.proofs.Math.Path.{refl, ap}
use Rattle.std.proofs.Common.{sym, ap₂, ◌∙◌, ⊎_elim, add-one, lt-ltb, le-ltb}
use Rattle.std.proofs.Math.Bool.{cond}
use Prim.Native.Nat.{ℕ, zero, suc, ◌+◌, ◌-◌, ◌<◌, ◌≤◌}
use native.Mathlib.Omega.{arith}
use Rattle.algebra.specs.Order.{lt_or_ge}
use Rattle.sha256_words.specs.Words.{◌⊞◌, σ0, σ1}
use Rattle.sha256_block.specs.Constants.{K}
use Rattle.sha256_block.specs.Compression.{M, next, within, W, round, rounds}
use Rattle.sha256_block.specs.declared.State.{State}

-- a word needs only words before it
pub next_ext : (f g : ℕ → ℕ) (t : ℕ) → 16 ≤ t → ((j : ℕ) → j < t → f j ≡ g j) → next f t ≡ next g t
unfolding next
next_ext f g t h e =
    ap₂ ◌⊞◌ (ap₂ ◌⊞◌ (ap₂ ◌⊞◌ (ap σ1 (e (t - 2) (omega arith))) (e (t - 7) (omega arith))) (ap σ0 (e (t - 15) (omega arith)))) (e (t - 16) (omega arith))

module _ (b : List ℕ) where
  within_first : (n t : ℕ) → t < 16 → within b n t ≡ M b t
  unfolding within
  within_first zero t h = refl
  within_first (suc n) t h = ap (λ x. cond x (M b t) (next (within b n) t)) (lt-ltb t 16 h)

  within_next : (n t : ℕ) → 16 ≤ t → within b (suc n) t ≡ next (within b n) t
  unfolding within
  within_next n t h = ap (λ x. cond x (M b t) (next (within b n) t)) (le-ltb t 16 h)

  -- a greater depth changes nothing
  enough : (n k t : ℕ) → t ≤ n → t ≤ k → within b n t ≡ within b k t
  enough zero k t h l = within_first 0 t (omega arith) ∙ sym (within_first k t (omega arith))
  enough (suc n) zero t h l = within_first (suc n) t (omega arith) ∙ sym (within_first 0 t (omega arith))
  enough (suc n) (suc k) t h l =
      ⊎_elim (λ s. within_first (suc n) t s ∙ sym (within_first (suc k) t s))
      (λ s. within_next n t s ∙ next_ext _ _ t s (λ j i. enough n k j (omega arith) (omega arith)) ∙ sym (within_next k t s))
      (lt_or_ge t 16)

  -- W_t = M_t for t up to 15
  pub word_first : (t : ℕ) → t < 16 → W b t ≡ M b t
  unfolding W
  word_first t h = within_first t t h

  -- W_t = σ1 (W_(t-2)) + W_(t-7) + σ0 (W_(t-15)) + W_(t-16) from 16 on
  pub word_next : (t : ℕ) → 16 ≤ t → W b t ≡ next (W b) t
  unfolding W
  word_next t h =
      let up : t ≡ suc (t - 1) = omega arith in
      ap (λ n. within b n t) up ∙ within_next (t - 1) t h ∙ next_ext _ _ t h (λ j l. enough (t - 1) j j (omega arith) (omega arith))

-- one round more
pub rounds_turn : (w : ℕ → ℕ) (s : State) (t : ℕ) {r r' : State} → r ≡ rounds w s t → r' ≡ round r (get_or K t 0) (w t) → r' ≡ rounds w s (t + 1)
unfolding rounds
rounds_turn w s t p q = q ∙ ap (λ r. round r (get_or K t 0) (w t)) p ∙ ap (rounds w s) (sym (add-one t))

-- n rounds need n words
pub rounds_ext : (f g : ℕ → ℕ) (s : State) (n : ℕ) → ((j : ℕ) → j < n → f j ≡ g j) → rounds f s n ≡ rounds g s n
unfolding rounds
rounds_ext f g s zero e = refl
rounds_ext f g s (suc n) e = ap₂ (λ r x. round r (get_or K n 0) x) (rounds_ext f g s n (λ j h. e j (omega arith))) (e n (omega arith))
