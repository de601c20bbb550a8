-- The test of distinct words is true exactly where any two positions hold different words, and false exactly where two hold the same. Assumes nothing.
use Rattle.std.specs.Prelude.{◌≡◌, refl, Bool, true, false, not, ◌&&◌, ◌↔◌, ◌≢◌, List, [], ◌∷◌, ℕ, zero, suc, ◌<◌, eqb, length, get_or}
use Rattle.std.proofs.Common.{sym, ap, ap₂, arith, eqb-true, ne_eqb}
use Rattle.std.proofs.lemmas.Bool.{false≢true, eqb-false, not-true}
use Rattle.algebra.specs.Tests.{all, all_at, all_of, and_both}
use Rattle.queries.specs.Distinct.{Repeated, Distinct, absent, distinct}

-- an absent word is in no place
pub absent_at : (x : ℕ) (ws : List ℕ) → absent x ws ≡ true → (k : ℕ) → k < length ws → get_or ws k 0 ≢ x
absent_at x ws e k l = eqb-false (get_or ws k 0) x (not-true _ (all_at (λ w. not (eqb w x)) ws 0 e k l))

absent_of : (x : ℕ) (ws : List ℕ) → ((k : ℕ) → k < length ws → get_or ws k 0 ≢ x) → absent x ws ≡ true
absent_of x ws h = all_of (λ w. not (eqb w x)) ws 0 (λ k l. ap not (ne_eqb _ _ (h k l)))

pub distinct_exactly : (ws : List ℕ) → (distinct ws ≡ true) ↔ Distinct ws
unfolding distinct
distinct_exactly [] = (λ e. record { apart = λ j k a b. absurd (omega arith) }, λ d. refl)
distinct_exactly (w ∷ ws) = (
  λ e. let b = and_both (absent w ws) (distinct ws) e in record { apart = each b.0 ((distinct_exactly ws).0 b.1) },
  λ d. ap₂ ◌&&◌ (absent_of w ws (λ k l. d.apart (suc k) 0 (omega arith) (omega arith) (λ q. omega arith))) ((distinct_exactly ws).1 (rest d)),
)
  where
    each : absent w ws ≡ true → Distinct ws → (j k : ℕ) → j < suc (length ws) → k < suc (length ws) → j ≢ k → get_or (w ∷ ws) j 0 ≢ get_or (w ∷ ws) k 0
    each e d zero zero a b n q = n refl
    each e d zero (suc k) a b n q = absent_at w ws e k (omega arith) (sym q)
    each e d (suc j) zero a b n q = absent_at w ws e j (omega arith) q
    each e d (suc j) (suc k) a b n q = d.apart j k (omega arith) (omega arith) (λ s. n (ap suc s)) q

    rest : Distinct (w ∷ ws) → Distinct ws
    rest d = record { apart = λ j k a b n. d.apart (suc j) (suc k) (omega arith) (omega arith) (λ s. n (omega arith)) }

-- a word that is not absent has a place
pub present : (x : ℕ) (ws : List ℕ) → absent x ws ≡ false → (k : ℕ) × (k < length ws) × (get_or ws k 0 ≡ x)
unfolding all
present x [] e = absurd (false≢true (sym e))
present x (w ∷ ws) e = go (eqb w x) refl (present x ws) e
  where
    go : (b : Bool) → eqb w x ≡ b → (absent x ws ≡ false → (k : ℕ) × (k < length ws) × (get_or ws k 0 ≡ x)) → (not b && absent x ws) ≡ false → (k : ℕ) × (k < suc (length ws)) × (get_or (w ∷ ws) k 0 ≡ x)
    go true q later f = (0, omega arith, eqb-true w x q)
    go false q later f = let p = later f in (suc p.0, omega (arith, p.1), p.2)

repeats : (ws : List ℕ) → distinct ws ≡ false → Repeated ws
unfolding distinct
repeats [] e = absurd (false≢true (sym e))
repeats (w ∷ ws) e = go (absent w ws) refl (repeats ws) e
  where
    go : (b : Bool) → absent w ws ≡ b → (distinct ws ≡ false → Repeated ws) → (b && distinct ws) ≡ false → Repeated (w ∷ ws)
    go true q later f =
        let p = later f in
        record { one = suc p.one; other = suc p.other; within = (omega (arith, p.within), omega (arith, p.within)); different = λ s. p.different (omega arith); same = p.same }
    go false q later f = let p = present w ws q in record { one = 0; other = suc p.0; within = (omega arith, omega (arith, p.1)); different = λ s. omega arith; same = sym p.2 }

pub repeated_exactly : (ws : List ℕ) → (distinct ws ≡ false) ↔ Repeated ws
repeated_exactly ws = (repeats ws, λ r. go r (distinct ws) refl)
  where
    go : Repeated ws → (b : Bool) → distinct ws ≡ b → b ≡ false
    go r false e = refl
    go r true e = absurd (((distinct_exactly ws).0 e).apart r.one r.other r.within.0 r.within.1 r.different r.same)
