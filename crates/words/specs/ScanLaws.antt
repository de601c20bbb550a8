-- What holds of words where the tests of them hold. Assumes nothing.
use Rattle.std.specs.Prelude.{◌≡◌, refl, Bool, true, false, not, ◌&&◌, List, [], ◌∷◌, ℕ, zero, suc, ◌-◌, ◌<◌, ◌≤◌, ltb, eqb, length, get_or, take, drop}
use Rattle.std.proofs.Common.{sym, ap, ap₂, ◌∙◌, arith, length-drop, take_all, lt-ltb, ltb-true}
use Rattle.std.proofs.lemmas.Bool.{not-true, eqb-false}
use Rattle.algebra.specs.Tests.{all, all₂, all_at, all_of, all₂_at, all₂_end}
use Rattle.algebra.specs.WordLists.{Low}
use Rattle.algebra.specs.Words.{PrimeField}
use Rattle.words.specs.Scans.{all_under, all_below, none_zero, all_differ, PlacesScanned, PairScanned}

pub none_zero_lem : (ws : List ℕ) → none_zero ws ≡ true → (k : ℕ) → k < length ws → get_or ws k 0 ≡ 0 → ⊥
none_zero_lem ws e k h = eqb-false _ _ (not-true _ (all_at (λ x. not (eqb x 0)) ws 0 e k h))

pub all_differ_lem : (ws vs : List ℕ) → all_differ ws vs ≡ true → (k : ℕ) → k < length ws → k < length vs → get_or ws k 0 ≡ get_or vs k 0 → ⊥
all_differ_lem ws vs e k h l = eqb-false _ _ (not-true _ (all₂_at (λ x y. not (eqb x y)) ws vs 0 e k h l))

and_false : (a : Bool) → (a && false) ≡ false
and_false true = refl
and_false false = refl

-- both below, first in the places that two lists share and then in the rest of each
pub both_under : (p n : ℕ) (ws vs : List ℕ) → n ≤ length ws → n ≤ length vs
    → (all₂ (λ x y. ltb x p && ltb y p) (take n ws) (take n vs) && (all_under p (drop n ws) && all_under p (drop n vs))) ≡ (all_under p ws && all_under p vs)
unfolding all all₂
both_under p zero ws vs h k = refl
both_under p (suc n) [] vs h k = absurd (omega arith)
both_under p (suc n) (x ∷ ws) [] h k = absurd (omega arith)
both_under p (suc n) (x ∷ ws) (y ∷ vs) h k = go (ltb x p) (ltb y p) _ _ (all_under p ws) (all_under p vs) (both_under p n ws vs (omega arith) (omega arith))
  where
    go : (a b c r u v : Bool) → (c && r) ≡ (u && v) → (((a && b) && c) && r) ≡ ((a && u) && (b && v))
    go true true c r u v e = e
    go true false c r u v e = sym (and_false u)
    go false b c r u v e = refl

module _ (𝓕 : PrimeField) where
  open 𝓕 use {modulus as P}

  pub all_below_lem : (ws : List ℕ) → all_below 𝓕 ws ≡ true → Low P ws
  all_below_lem ws e = record { low = λ k h. ltb-true _ _ (all_at (λ x. ltb x P) ws 0 e k h) }

  pub below_all : (ws : List ℕ) → Low P ws → all_below 𝓕 ws ≡ true
  below_all ws l = all_of (λ x. ltb x P) ws 0 (λ k h. lt-ltb (get_or ws k 0) P (l.low k h))

  -- a pass over the places that two lists share, and over the rest of each
  pub pair_scanned : (p n : ℕ) (ws vs : List ℕ) → p ≡ P → n ≤ length ws → n ≤ length vs → (n < length ws → n < length vs → ⊥) → {b a f s : Bool}
      → PlacesScanned p (take n ws) (take n vs) b a → f ≡ all_under p (take (length ws - n) (drop n ws)) → s ≡ all_under p (take (length vs - n) (drop n vs))
      → PairScanned 𝓕 ws vs (b && (f && s)) a
  pair_scanned p n ws vs m h k none 𝓢 e f =
      let rest : (l : List ℕ) → take (length l - n) (drop n l) ≡ drop n l = λ l. take_all (length l - n) (drop n l) (omega (arith, length-drop n l)) in
      record {
        below_is =
            ap₂ ◌&&◌ 𝓢.below_is (ap₂ ◌&&◌ (e ∙ ap (λ l. all_under p l) (rest ws)) (f ∙ ap (λ l. all_under p l) (rest vs)))
            ∙ both_under p n ws vs h k
            ∙ ap (λ q. all_under q ws && all_under q vs) m;
        apart_is = all₂_end (λ x y. not (eqb x y)) n ws vs none 𝓢.apart_is;
      }
