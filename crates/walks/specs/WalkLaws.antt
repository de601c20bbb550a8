-- Where a query goes on, and a query through its levels, over any code and any number of low variables. Assumes nothing.
use Rattle.std.specs.Prelude.{◌≡◌, refl, Bool, true, false, cond, List, ◌++◌, leb, length, get_or, drop}
use Rattle.std.proofs.Math.Path.{sym, ap, ap₂}
use Rattle.std.proofs.Common.{◌∙◌, add-one, arith, drop_of_length-le, drop-cons, le-leb}
use Rattle.std.proofs.Math.Option.{none, some}
use Prim.Native.Nat.{ℕ, zero, suc, ◌+◌, ◌*◌, ◌-◌, ◌^◌, ◌≤◌, ◌<◌}
use Rattle.std.proofs.lemmas.Bool.{lt-leb}
use Rattle.algebra.specs.Field.{Field}
use Rattle.algebra.specs.Flags.{cond_true, cond_false}
use Rattle.foldable.specs.Code.{Code}
use Rattle.basefold.specs.Honest.{next_within}
use Rattle.basefold.specs.Checks.{Check, fold_check, first_failure, next, places, fold_holds, folds_at, folds_from}
use Rattle.basefold.specs.CheckLaws.{first_holds, first_fails, first_none}
use Rattle.job.specs.Limits.{block_size}
use Rattle.verdict.specs.FirstFailure.{append_fails, append_holds}
use Rattle.walks.specs.Steps.{PlaceBelow}

-- where a query goes on
pub next_zero : (n i u : ℕ) → i ≡ 0 → u ≡ next n i u
unfolding next
next_zero n zero u e = refl
next_zero n (suc i) u e = absurd (omega arith)

next_at : (n i u : ℕ) → next n (suc i) u ≡ cond (leb (n * 2 ^ (suc i - 1)) u) (u - n * 2 ^ (suc i - 1)) u
unfolding next
next_at n i u = let one : suc i - 1 ≡ i = omega arith in sym (ap (λ k. cond (leb (n * 2 ^ k) u) (u - n * 2 ^ k) u) one)

pub next_less : (n i u : ℕ) {k : ℕ} → (i ≡ 0 → ⊥) → k ≡ block_size n (i - 1) → k ≤ u → u - k ≡ next n i u
next_less n zero u z e h = absurd (z refl)
next_less n (suc i) u {k} z e h = sym (next_at n i u ∙ rw (← e) (cond_true (u - k) u (le-leb k u h)))

pub next_same : (n i u : ℕ) {k : ℕ} → (i ≡ 0 → ⊥) → k ≡ block_size n (i - 1) → u < k → u ≡ next n i u
next_same n zero u z e h = absurd (z refl)
next_same n (suc i) u {k} z e h = sym (next_at n i u ∙ rw (← e) (cond_false (u - k) u (lt-leb k u h)))

-- a place of the block below level i, and where it goes on, stays one
pub start_below : (n i u : ℕ) → 0 < i → PlaceBelow n i u → u < block_size n (i - 1)
start_below n zero u h s = absurd (omega arith)
start_below n (suc i) u h s = let one : suc i - 1 ≡ i = omega arith in rw one s

pub next_start : (n i u : ℕ) → u < block_size n i → PlaceBelow n i (next n i u)
next_start n zero u h = tt
next_start n (suc i) u h = next_within n i u h

-- base blocks of c words, depth d; the commitment W, the challenges ρ and the opening O
module _ (F : Field) (low : ℕ) (C : Code F) (c d : ℕ) (W ρ O : List F.ring.R) where
  -- a query at position q, whose place is u, before level i - 1, where its place is `at`
  pub record Walking (q u i at : ℕ) : Type 0 where
    pub left : i ≤ d
    pub start : PlaceBelow c i at
    pub first : first_failure (folds_at F low C W ρ O q (places c d u)) ≡ first_failure (folds_at F low C W ρ O q (places c i at))

  pub walking_none : (q u : ℕ) → PlaceBelow c d u → Walking q u d u
  walking_none q u h = record { left = omega arith; start = h; first = refl }

  module _ (q u i at : ℕ) (𝓦 : Walking q u (suc i) at) where
    fails : fold_holds F low C W ρ O i at ≡ false → some (fold_check q i) ≡ first_failure (folds_at F low C W ρ O q (places c d u))
    unfolding folds_at places
    fails e = sym (𝓦.first ∙ first_fails (fold_check q i) _ _ e)

    turn : fold_holds F low C W ρ O i at ≡ true → Walking q u i (next c i at)
    unfolding folds_at places
    turn e =
        let l = 𝓦.left in
        record { left = omega arith; start = next_start c i at 𝓦.start; first = 𝓦.first ∙ first_holds (fold_check q i) _ _ e }

  pub walking_fails : (q u i at : ℕ) → 0 < i → Walking q u i at → fold_holds F low C W ρ O (i - 1) at ≡ false
      → some (fold_check q (i - 1)) ≡ first_failure (folds_at F low C W ρ O q (places c d u))
  walking_fails q u zero at h 𝓦 e = absurd (omega arith)
  walking_fails q u (suc i) at h 𝓦 e = let one : suc i - 1 ≡ i = omega arith in rw one (fails q u i at 𝓦 (rw one at e))

  pub walking_turn : (q u i at v : ℕ) → 0 < i → Walking q u i at → fold_holds F low C W ρ O (i - 1) at ≡ true → v ≡ next c (i - 1) at → Walking q u (i - 1) v
  walking_turn q u zero at v h 𝓦 e n = absurd (omega arith)
  walking_turn q u (suc i) at v h 𝓦 e n = let one : suc i - 1 ≡ i = omega arith in rw (n, one) (turn q u i at 𝓦 (rw one at e))

  pub walking_end : (q u i at : ℕ) → (0 < i → ⊥) → Walking q u i at → none ≡ first_failure (folds_at F low C W ρ O q (places c d u))
  unfolding folds_at places
  walking_end q u zero at h 𝓦 = sym (𝓦.first ∙ first_none)
  walking_end q u (suc i) at h 𝓦 = absurd (h (omega arith))

  -- the checks of all queries from position q on
  abbrev pub checks_left : List ℕ → ℕ → List (Check × Bool)
  checks_left us q = folds_from F low C W ρ O q (drop q us)

  pub left_end : (us : List ℕ) (q : ℕ) → length us ≤ q → none ≡ first_failure (checks_left us q)
  unfolding folds_from
  left_end us q x = sym (ap (λ s. first_failure (folds_from F low C W ρ O q s)) (drop_of_length-le us x) ∙ first_none)

  module _ (ec : C.n₀ ≡ c) (ed : length ρ ≡ d) (us : List ℕ) where
    left_are : (q : ℕ) → q < length us → checks_left us q ≡ folds_at F low C W ρ O q (places c d (get_or us q 0)) ++ checks_left us (q + 1)
    unfolding folds_from
    left_are q h =
        ap (folds_from F low C W ρ O q) (drop-cons us q 0 h)
        ∙ ap₂ (λ n m. folds_at F low C W ρ O q (places n m (get_or us q 0)) ++ checks_left us (suc q)) ec ed
        ∙ ap (λ n. folds_at F low C W ρ O q (places c d (get_or us q 0)) ++ checks_left us n) (sym (add-one q))

    pub left_fails : (q : ℕ) → q < length us → {f : Check} → some f ≡ first_failure (folds_at F low C W ρ O q (places c d (get_or us q 0))) → some f ≡ first_failure (checks_left us q)
    left_fails q h x = append_fails _ (checks_left us (q + 1)) x ∙ ap first_failure (sym (left_are q h))

    pub left_turn : (q : ℕ) → q < length us → none ≡ first_failure (folds_at F low C W ρ O q (places c d (get_or us q 0))) → first_failure (checks_left us q) ≡ first_failure (checks_left us (q + 1))
    left_turn q h x = ap first_failure (left_are q h) ∙ sym (append_holds _ (checks_left us (q + 1)) x refl)
