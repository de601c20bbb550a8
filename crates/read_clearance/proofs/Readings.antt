-- The four ways that reading a word ends. Assumes nothing.
use mathlib.Core.Path.{◌≡◌, refl, sym, ap, ◌∙◌}
use mathlib.Core.Bool.{Bool, true, false}
use Prim.Native.Nat.{ℕ, zero, suc, ◌-◌, ◌<◌, ◌≤◌}
use native.Mathlib.Omega.{arith}
use lib.Dec.{ltb}
use lib.IntN.{pos}
use borrow.Author.Tests.{ltb-true, lt-ltb}
use Rattle.algebra.specs.Words.{PrimeField}
use Rattle.job.specs.Outcome.{Outcome, refused, done}
use Rattle.job.specs.declared.Input.TheVariants.{Block}
use Rattle.job.specs.OutcomeLaws.{after_refused, after_done, refuses, holds_demand}
use Rattle.residue.specs.declared.Residue.{Residue}
use Rattle.std.specs.Prelude.{Option, Some, None}
use Rattle.residue.specs.Elements.{parsed, parsed_by}
use Rattle.places.specs.FlagLaws.{one_word}
use Rattle.clearance.specs.Clearances.{clearance_of, border, Meaning, meaning, free, contact, overlap}
use Rattle.clearance.specs.ClearanceLaws.{by_pos, by_negsuc}
use Rattle.read_clearance.specs.Reading.{reading}

-- a word that is a residue is that residue's
pub record Same (p w v : ℕ) : Type 0 where
  pub is : v ≡ w
  pub low : w < p

module _ (𝓕 : PrimeField) where
  open 𝓕 use {modulus as P, above}

  pub no_residue : (w : ℕ) (o : Option Residue) → ((r : Residue) → o ≡ Some r → ⊥) → o ≡ parsed 𝓕 w → refused (4, 0, 4) ≡ reading 𝓕 w
  no_residue w (Some r) k e = absurd (k r refl)
  no_residue w None k e = go (ltb w P) refl e
    where
      go : (b : Bool) → ltb w P ≡ b → None ≡ parsed_by 𝓕 b w → refused (4, 0, 4) ≡ reading 𝓕 w
      go true p q = absurd (let z : ◌≡◌ {A = ℕ} 0 1 = cc in omega arith)
      go false p q = after_refused _ (refuses _ p ∙ sym (one_word 𝓕 Block w))

  pub a_residue : (w : ℕ) (r : Residue) → Some r ≡ parsed 𝓕 w → Same P w r.0
  a_residue w r e = go (ltb w P) refl e
    where
      go : (b : Bool) → ltb w P ≡ b → Some r ≡ parsed_by 𝓕 b w → Same P w r.0
      go true p q = let s : r ≡ record { 0 = w } = cc in record { is = ap (λ x. x.0) s; low = ltb-true w P p }
      go false p q = absurd (let z : ◌≡◌ {A = ℕ} 0 1 = cc in omega arith)

  -- a residue is not refused
  low_word : (w : ℕ) → w < P → {x : Outcome Meaning} → x ≡ done (meaning (clearance_of 𝓕 w)) → x ≡ reading 𝓕 w
  low_word w l e = after_done (holds_demand _ (lt-ltb w P l) ∙ sym (one_word 𝓕 Block w)) e

  -- a word below the border is its distance
  below_border : (w : ℕ) → w < border 𝓕 → done (meaning (pos w)) ≡ reading 𝓕 w
  below_border w h = low_word w (omega (arith, above)) (sym (ap (λ x. done (meaning x)) (by_pos _ P w h)))

  pub reads_contact : (w : ℕ) → w ≡ 0 → done contact ≡ reading 𝓕 w
  reads_contact w e = below_border 0 (omega (arith, above)) ∙ ap (reading 𝓕) (sym e)

  pub reads_free : (w : ℕ) → 0 < w → w < border 𝓕 → done (free w) ≡ reading 𝓕 w
  reads_free zero l h = absurd (omega arith)
  reads_free (suc n) l h = below_border (suc n) h

  pub reads_overlap : (w : ℕ) → border 𝓕 ≤ w → w < P → done (overlap (P - w)) ≡ reading 𝓕 w
  reads_overlap w h l = go (P - w) refl
    where
      go : (k : ℕ) → P - w ≡ k → done (overlap (P - w)) ≡ reading 𝓕 w
      go zero e = absurd (omega arith)
      go (suc n) e =
          ap (λ k. done (overlap k)) e
          ∙ low_word w l (sym (ap (λ x. done (meaning x)) (by_negsuc _ P w n h e)))
