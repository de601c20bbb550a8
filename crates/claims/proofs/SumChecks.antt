-- The sums, from the top one down. Assumes nothing.
use mathlib.Core.Path.{◌≡◌, refl, sym, ap, ◌∙◌}
use mathlib.Core.Bool.{true, false}
use mathlib.Core.List.{List}
use Prim.Native.Nat.{ℕ, zero, suc, ◌+◌, ◌-◌, ◌≤◌, ◌<◌}
use native.Mathlib.Omega.{arith}
use lib.Dec.{eqb}
use lib.ListN.{length, get_or}
use Rattle.algebra.specs.Half.{two}
use Rattle.algebra.specs.Words.{PrimeField}
use Rattle.algebra.specs.WordLists.{elements, length_elements, get_or_elements}
use Rattle.multilinear.specs.Quadratic.{through, through_steps}
use Rattle.basefold.specs.Layout.{round_at, sent}
use Rattle.basefold.specs.Checks.{sum_check, first_failure, sums_from, same}
use Rattle.basefold.specs.CheckLaws.{first_holds, first_fails}
use Rattle.residue.specs.Elements.{Low, elem, half}
use Rattle.residue.specs.ResidueLaws.{is_low, stands}
use Rattle.residue.specs.declared.Residue.{Residue}
use Rattle.verdict.specs.Equality.{its_word, same_words}
use Rattle.claims.specs.Steps.{RoundSent, ChallengeSent, SumsInput, SumsResult}
use Rattle.std.specs.Prelude.{Ok, Err}
use Rattle.verdict.specs.declared.Failure.TheVariants.{Sum}

module _ (𝓕 : PrimeField) where
  infixl 65 ◌⊞◌
  infixl 65 ◌⊟◌
  infixl 70 ◌⊠◌
  open 𝓕 use {modulus as P, field as F, words as W}
  open F use {ring as K}
  open K use {R as Element, ◌+◌ as ◌⊞◌, ◌*◌ as ◌⊠◌, ◌-◌ as ◌⊟◌}
  open W use {el, val as word}

  -- the value at x, as it is computed
  pub through_words : (a b c x : Element) {p s q m h l w : ℕ} → p ≡ word (b ⊟ a) → s ≡ word (c ⊟ b) → q ≡ word (el s ⊟ el p) → m ≡ word (x ⊟ el 1) → h ≡ word (el m ⊠ half 𝓕)
      → l ≡ word (el p ⊞ el h ⊠ el q) → w ≡ word (a ⊞ x ⊠ el l) → w ≡ word (through K (half 𝓕) a b c x)
  through_words a b c x ep es eq em eh el' ew =
      let P' = stands 𝓕 _ ep in
      let Q' = stands 𝓕 _ eq ∙ (λ i. stands 𝓕 _ es i ⊟ P' i) in
      let M' = stands 𝓕 _ em ∙ ap (λ y. x ⊟ y) 𝓕.words.el_one in
      let H' = stands 𝓕 _ eh ∙ ap (λ y. y ⊠ half 𝓕) M' in
      ew ∙ ap (λ y. word (a ⊞ x ⊠ y)) (stands 𝓕 _ el' ∙ (λ i. P' i ⊞ H' i ⊠ Q' i)) ∙ ap word (sym (through_steps K (half 𝓕) (F.mul_inv _ (two 𝓕)) a b c x))

  -- the values of h_i, which begin at n
  module _ (d i : ℕ) (o : List ℕ) (𝓡 : RoundSent 𝓕 d i o) (n : ℕ) (en : n ≡ round_at d i) where
    pub sent_within : (k : ℕ) → k < 3 → n + k < length o
    sent_within k h = omega (arith, 𝓡.positive, 𝓡.level, 𝓡.long)

    pub sent_low : (k at : ℕ) → k < 3 → at ≡ n + k → get_or o at 0 < P
    sent_low k at h e = 𝓡.low.low at (omega (arith, sent_within k h))

    sent_is : (k at : ℕ) → at ≡ n + k → {a : Residue} → a.0 ≡ get_or o at 0 → elem 𝓕 a ≡ sent F (elements 𝓕 o) d i k
    sent_is k at e p =
        let q : at ≡ round_at d i + k = omega arith in
        ap el p ∙ ap (λ m. el (get_or o m 0)) q ∙ sym (get_or_elements 𝓕 o (round_at d i + k))

    pub sum_test : (a b claim : Residue) {s : ℕ} → a.0 ≡ get_or o n 0 → b.0 ≡ get_or o (n + 1) 0 → Low 𝓕 claim → s ≡ word (elem 𝓕 a ⊞ elem 𝓕 b)
        → eqb s claim.0 ≡ same F (sent F (elements 𝓕 o) d i 0 ⊞ sent F (elements 𝓕 o) d i 1) (elem 𝓕 claim)
    sum_test a b claim ea eb l es =
        same_words 𝓕 _ _ es (its_word 𝓕 claim.0 l) ∙ (λ k. same F (sent_is 0 n (omega arith) ea k ⊞ sent_is 1 (n + 1) refl eb k) (elem 𝓕 claim))

    pub through_sent : (a b c x : Residue) (y w : ℕ) → a.0 ≡ get_or o n 0 → b.0 ≡ get_or o (n + 1) 0 → c.0 ≡ get_or o (n + 2) 0 → x.0 ≡ y → w ≡ word (through K (half 𝓕) (elem 𝓕 a) (elem 𝓕 b) (elem 𝓕 c) (elem 𝓕 x))
        → w ≡ word (through K (half 𝓕) (sent F (elements 𝓕 o) d i 0) (sent F (elements 𝓕 o) d i 1) (sent F (elements 𝓕 o) d i 2) (el y))
    through_sent a b c x y w ea eb ec ex e =
        e ∙ (λ k. word (through K (half 𝓕) (sent_is 0 n (omega arith) ea k) (sent_is 1 (n + 1) refl eb k) (sent_is 2 (n + 2) refl ec k) (el (ex k))))

  -- where the loop stands before sum i
  pub record SumsLeft (d : ℕ) (y : Residue) (r o : List ℕ) (i : ℕ) (claim : Residue) : Type 0 where
    pub left : i ≤ d
    pub low : Low 𝓕 claim
    pub first : (low : ℕ) (z : List Element)
        → first_failure (sums_from F low (elements 𝓕 o) z (elements 𝓕 r) d (elem 𝓕 y)) ≡ first_failure (sums_from F low (elements 𝓕 o) z (elements 𝓕 r) i (elem 𝓕 claim))

  module _ (d : ℕ) (y : Residue) (r o : List ℕ) (𝓘 : SumsInput 𝓕 d y r o) where
    abbrev O : List Element
    O = elements 𝓕 o

    abbrev ρ : List Element
    ρ = elements 𝓕 r

    pub sums_none : SumsLeft d y r o d y
    sums_none = record { left = omega arith; low = 𝓘.claim; first = λ low z. refl }

    pub sums_end : (i : ℕ) (claim : Residue) → SumsLeft d y r o i claim → (0 < i → ⊥) → SumsResult 𝓕 d y r o (Ok claim)
    sums_end zero claim 𝓢 h = record { low = 𝓢.low; first = 𝓢.first }
    sums_end (suc i) claim 𝓢 h = absurd (h (omega arith))

    module _ (i : ℕ) (claim : Residue) (𝓢 : SumsLeft d y r o i claim) (h : 0 < i) where
      pub round_sent : RoundSent 𝓕 d i o
      round_sent = record { positive = h; level = 𝓢.left; long = 𝓘.long; low = 𝓘.opening }

      pub challenge_sent : ChallengeSent 𝓕 i r
      challenge_sent = record { long = omega (arith, 𝓘.challenges, 𝓢.left); low = 𝓘.low }

    deep : length ρ ≡ d
    deep = length_elements 𝓕 r ∙ 𝓘.challenges

    module _ (i : ℕ) (claim : Residue) (𝓢 : SumsLeft d y r o (suc i) claim) where
      fails : same F (sent F O d (suc i) 0 ⊞ sent F O d (suc i) 1) (elem 𝓕 claim) ≡ false → SumsResult 𝓕 d y r o (Err (Sum (suc i)))
      unfolding sums_from
      fails e =
          record {
            low = tt;
            first = λ low z. 𝓢.first low z ∙ first_fails (sum_check (suc i)) _ _ (ap (λ n. same F (sent F O n (suc i) 0 ⊞ sent F O n (suc i) 1) (elem 𝓕 claim)) deep ∙ e);
          }

      turn : (next : Residue) → same F (sent F O d (suc i) 0 ⊞ sent F O d (suc i) 1) (elem 𝓕 claim) ≡ true
          → next.0 ≡ word (through K (half 𝓕) (sent F O d (suc i) 0) (sent F O d (suc i) 1) (sent F O d (suc i) 2) (el (get_or r i 0))) → SumsLeft d y r o i next
      unfolding sums_from
      turn next e en =
          let l = 𝓢.left in
          record {
            left = omega arith;
            low = is_low 𝓕 _ en;
            first = λ low z. 𝓢.first low z ∙ first_holds (sum_check (suc i)) _ _ (ap (λ n. same F (sent F O n (suc i) 0 ⊞ sent F O n (suc i) 1) (elem 𝓕 claim)) deep ∙ e)
                ∙ ap (λ x. first_failure (sums_from F low O z ρ i x))
                ((λ k. through K (half 𝓕) (sent F O (deep k) (suc i) 0) (sent F O (deep k) (suc i) 1) (sent F O (deep k) (suc i) 2) (get_or_elements 𝓕 r i k)) ∙ sym (stands 𝓕 _ en));
          }

    pub sums_fails : (i : ℕ) (claim : Residue) → SumsLeft d y r o i claim → 0 < i → same F (sent F O d i 0 ⊞ sent F O d i 1) (elem 𝓕 claim) ≡ false → SumsResult 𝓕 d y r o (Err (Sum i))
    sums_fails zero claim 𝓢 h e = absurd (omega arith)
    sums_fails (suc i) claim 𝓢 h e = fails i claim 𝓢 e

    pub sums_turn : (i : ℕ) (claim next : Residue) → SumsLeft d y r o i claim → 0 < i → same F (sent F O d i 0 ⊞ sent F O d i 1) (elem 𝓕 claim) ≡ true
        → next.0 ≡ word (through K (half 𝓕) (sent F O d i 0) (sent F O d i 1) (sent F O d i 2) (el (get_or r (i - 1) 0))) → SumsLeft d y r o (i - 1) next
    sums_turn zero claim next 𝓢 h e en = absurd (omega arith)
    sums_turn (suc i) claim next 𝓢 h e en = let one : suc i - 1 ≡ i = omega arith in rw one (turn i claim 𝓢 next e (rw one at en))
