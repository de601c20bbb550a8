-- There are no more distinct words below n than n. Assumes nothing.
use Rattle.std.specs.Prelude.{◌≡◌, refl, Bool, true, false, not, ◌&&◌, cond, List, [], ◌∷◌, ℕ, zero, suc, ◌<◌, ◌≤◌, eqb, ltb, length}
use Rattle.std.proofs.Common.{sym, ap, ap₂, arith, eqb-true, lt-ltb, ltb-true}
use Rattle.std.proofs.lemmas.Bool.{false≢true, eqb-false}
use Rattle.algebra.specs.Tests.{all, and_both}
use Rattle.words.specs.Scans.{all_under}
use Rattle.queries.specs.Distinct.{absent, distinct}

-- the words that are not x
unfoldable without : ℕ → List ℕ → List ℕ
without x [] = []
without x (w ∷ ws) = cond (eqb w x) (without x ws) (w ∷ without x ws)

-- an absent word is not missed
without_absent : (x : ℕ) (ws : List ℕ) → absent x ws ≡ true → without x ws ≡ ws
unfolding without all
without_absent x [] e = refl
without_absent x (w ∷ ws) e = go (eqb w x) (without_absent x ws) e
  where
    go : (b : Bool) → (absent x ws ≡ true → without x ws ≡ ws) → (not b && absent x ws) ≡ true → cond b (without x ws) (w ∷ without x ws) ≡ w ∷ ws
    go true later f = absurd (false≢true f)
    go false later f = ap (λ v. w ∷ v) (later f)

-- a word is absent still
absent_without : (y x : ℕ) (ws : List ℕ) → absent y ws ≡ true → absent y (without x ws) ≡ true
unfolding without all
absent_without y x [] e = refl
absent_without y x (w ∷ ws) e = let b = and_both (not (eqb w y)) (absent y ws) e in go (eqb w x) b.0 (absent_without y x ws b.1)
  where
    go : (b : Bool) → not (eqb w y) ≡ true → absent y (without x ws) ≡ true → absent y (cond b (without x ws) (w ∷ without x ws)) ≡ true
    go true f g = g
    go false f g = ap₂ ◌&&◌ f g

distinct_without : (x : ℕ) (ws : List ℕ) → distinct ws ≡ true → distinct (without x ws) ≡ true
unfolding without distinct
distinct_without x [] e = refl
distinct_without x (w ∷ ws) e = let b = and_both (absent w ws) (distinct ws) e in go (eqb w x) (absent_without w x ws b.0) (distinct_without x ws b.1)
  where
    go : (b : Bool) → absent w (without x ws) ≡ true → distinct (without x ws) ≡ true → distinct (cond b (without x ws) (w ∷ without x ws)) ≡ true
    go true f g = g
    go false f g = ap₂ ◌&&◌ f g

-- of distinct words at most one is missed
one_missed : (x : ℕ) (ws : List ℕ) → distinct ws ≡ true → length ws ≤ suc (length (without x ws))
unfolding without distinct
one_missed x [] e = omega arith
one_missed x (w ∷ ws) e = let b = and_both (absent w ws) (distinct ws) e in go (eqb w x) refl b.0 (one_missed x ws b.1)
  where
    go : (b : Bool) → eqb w x ≡ b → absent w ws ≡ true → length ws ≤ suc (length (without x ws)) → suc (length ws) ≤ suc (length (cond b (without x ws) (w ∷ without x ws)))
    go true q f h = let s : without x ws ≡ ws = without_absent x ws (rw (sym (eqb-true w x q)) f) in omega (arith, ap length s)
    go false q f h = omega arith

-- the words below n + 1 that are not n are below n
under_without : (n : ℕ) (ws : List ℕ) → all_under (suc n) ws ≡ true → all_under n (without n ws) ≡ true
unfolding without all
under_without n [] e = refl
under_without n (w ∷ ws) e = let b = and_both (ltb w (suc n)) (all_under (suc n) ws) e in go (eqb w n) refl (ltb-true w (suc n) b.0) (under_without n ws b.1)
  where
    go : (b : Bool) → eqb w n ≡ b → w < suc n → all_under n (without n ws) ≡ true → all_under n (cond b (without n ws) (w ∷ without n ws)) ≡ true
    go true q h g = g
    go false q h g = ap₂ ◌&&◌ (lt-ltb w n (omega (arith, eqb-false w n q))) g

pub distinct_few : (n : ℕ) (ws : List ℕ) → distinct ws ≡ true → all_under n ws ≡ true → length ws ≤ n
unfolding all
distinct_few zero [] e h = omega arith
distinct_few zero (w ∷ ws) e h = let l = ltb-true w 0 (and_both (ltb w 0) (all_under 0 ws) h).0 in absurd (omega (arith, l))
distinct_few (suc n) ws e h = omega (arith, one_missed n ws e, distinct_few n (without n ws) (distinct_without n ws e) (under_without n ws h))
