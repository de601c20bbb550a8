-- The search finds the first place that fails and no other, and where a test of all is false there is one. Assumes nothing.
use Rattle.std.specs.Prelude.{◌≡◌, refl, Bool, true, false, cond, ◌↔◌, ◌⊎◌, List, ℕ, zero, suc, ◌≤◌, min, length, get_or}
use Rattle.std.proofs.Common.{sym, ap, ◌∙◌, inl, inr, ⊎_elim, arith}
use Rattle.std.proofs.lemmas.Bool.{false≢true}
use Rattle.algebra.specs.Order.{lt_or_ge}
use Rattle.algebra.specs.Tests.{all, all₂, all_at, all_of, all₂_at, all₂_of}
use Rattle.places.specs.Places.{AllPass, First, first_place, place_of, place_of₂}

-- one place more, at the front
all_pass_suc : (passes : ℕ → Bool) (n : ℕ) → passes 0 ≡ true → AllPass (λ k. passes (suc k)) n → AllPass passes (suc n)
all_pass_suc passes n e h zero l = e
all_pass_suc passes n e h (suc j) l = h j (omega arith)

-- the search ends at the first place that fails, or at n, where all pass
searched : (passes : ℕ → Bool) (n : ℕ) → First passes n (first_place passes n) ⊎ ((first_place passes n ≡ n) × AllPass passes n)
unfolding first_place
searched passes zero = inr (refl, λ j l. absurd (omega arith))
searched passes (suc n) = go (passes 0) refl (searched (λ k. passes (suc k)) n)
  where
    go : {k : ℕ} (b : Bool) → passes 0 ≡ b → First (λ k. passes (suc k)) n k ⊎ ((k ≡ n) × AllPass (λ k. passes (suc k)) n)
        → First passes (suc n) (cond b (suc k) 0) ⊎ ((cond b (suc k) 0 ≡ suc n) × AllPass passes (suc n))
    go false e found = inl (record { within = omega arith; before = λ j l. absurd (omega arith); failing = e })
    go true e (inl found) = inl (record { within = omega arith; before = all_pass_suc passes _ e found.before; failing = found.failing })
    go true e (inr found) = inr (ap suc found.0, all_pass_suc passes n e found.1)

module _ {passes : ℕ → Bool} {n : ℕ} where
  -- a place that fails is not among those that pass
  fails_past : {k : ℕ} → First passes n k → {m : ℕ} → AllPass passes m → m ≤ k
  fails_past {k} f {m} h = ⊎_elim (λ l. absurd (false≢true (sym f.failing ∙ h k l))) (λ l. l) (lt_or_ge k m)

  -- whatever is first is what it finds
  pub first_only : {k : ℕ} → First passes n k → k ≡ first_place passes n
  first_only f =
      ⊎_elim
      (λ g. omega (arith, fails_past f g.before, fails_past g f.before))
      (λ h. absurd (omega (arith, fails_past f h.1)))
      (searched passes n)

  -- it ends at n exactly where every place passes
  pub first_none : (first_place passes n ≡ n) ↔ AllPass passes n
  first_none =
      ⊎_elim
      (λ f. (λ e. absurd (omega arith), λ h. absurd (omega (arith, fails_past f h))))
      (λ h. (λ e. h.1, λ g. h.0))
      (searched passes n)

  -- where not every place passes, there is a first that fails
  first_some : (AllPass passes n → ⊥) → First passes n (first_place passes n)
  first_some h = ⊎_elim (λ f. f) (λ g. absurd (h g.1)) (searched passes n)

-- from the flag of a scan of one list, and of two
module _ (f : ℕ → Bool) (xs : List ℕ) where
  pub place_first : all f xs ≡ false → First (λ k. f (get_or xs k 0)) (length xs) (place_of f xs)
  place_first e = first_some (λ h. false≢true (sym e ∙ all_of f xs 0 h))

  pub place_none : all f xs ≡ true → place_of f xs ≡ length xs
  place_none e = first_none.1 (all_at f xs 0 e)

module _ (f : ℕ → ℕ → Bool) (xs ys : List ℕ) where
  pub place₂_first : all₂ f xs ys ≡ false → First (λ k. f (get_or xs k 0) (get_or ys k 0)) (min (length xs) (length ys)) (place_of₂ f xs ys)
  place₂_first e = first_some (λ h. false≢true (sym e ∙ all₂_of f xs ys 0 (λ k a b. h k (omega arith))))

  pub place₂_none : all₂ f xs ys ≡ true → place_of₂ f xs ys ≡ min (length xs) (length ys)
  place₂_none e = first_none.1 (λ k l. all₂_at f xs ys 0 e k (omega arith) (omega arith))
