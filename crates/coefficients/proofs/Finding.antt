-- What is handed to the transform, and what is made of it. Assumes nothing.
use mathlib.Core.Path.{◌≡◌, refl, sym, ap, ap₂, ◌∙◌, subst}
use mathlib.Core.Bool.{true}
use mathlib.Core.List.{List, map}
use Prim.Native.Nat.{ℕ, ◌^◌}
use native.Mathlib.Omega.{arith}
use lib.IntN.{ℤ, pos}
use lib.ListN.{length, get_or, length-map, get_or-map}
use Rattle.algebra.specs.Tests.{all, all_at}
use Rattle.algebra.specs.Words.{PrimeField}
use Rattle.algebra.specs.WordLists.{Low, elements, to_words}
use Rattle.multilinear.specs.Table.{coefficients}
use Rattle.job.specs.declared.Refusal.{Refusal}
use Rattle.std.specs.Prelude.{Ok, Err}
use Rattle.job.specs.Outcome.{refused, done, due}
use Rattle.clearance.specs.Clearances.{in_range, residue_of}
use Rattle.clearance.specs.ClearanceLaws.{residue_lt}
use Rattle.table_length.specs.Depth.{is_power, exponent}
use Rattle.table_length.specs.DepthLaws.{exponent_is}
use Rattle.transform.specs.Passes.{across, passes, passes_coefficients}
use Rattle.coefficients.specs.Job.{judge_table, MessageOf, Leaves, ToCoefficients as Coefficients}
use Rattle.transform.specs.declared.Way.TheVariants.{ToCoefficients}

module _ (𝓕 : PrimeField) where
  open 𝓕 use {modulus as P, field as F}
  open F use {ring as K}

  low_residues : (t : List ℤ) → all (in_range 𝓕) t ≡ true → Low P (map (residue_of 𝓕) t)
  low_residues t e = record {
    low = λ k h.
        rw (get_or-map (residue_of 𝓕) t k (pos 0)) (residue_lt 𝓕 (get_or t k (pos 0)) (all_at (in_range 𝓕) t (pos 0) e k (omega (arith, length-map t (residue_of 𝓕)))));
  }

  -- w is the table's words, d its depth
  module _ (t : List ℤ) {w : List ℕ} {d : ℕ} (is : w ≡ map (residue_of 𝓕) t) (deep : d ≡ exponent (length t)) where
    pub table_asks : is_power (length t) ≡ true → all (in_range 𝓕) t ≡ true → (length w ≡ 2 ^ d) × Low P w
    table_asks p r = (
      ap length is ∙ length-map t (residue_of 𝓕) ∙ exponent_is _ (length t) p ∙ ap (λ n. 2 ^ n) (sym deep),
      rw is (low_residues t r),
    )

    pub table_found : {r : List ℕ} → r ≡ to_words 𝓕 (passes (across 𝓕 ToCoefficients) d (elements 𝓕 w))
        → r ≡ to_words 𝓕 (coefficients K (exponent (length t)) (elements 𝓕 (map (residue_of 𝓕) t)))
    table_found e = e ∙ ap (to_words 𝓕) (passes_coefficients 𝓕 d (elements 𝓕 w)) ∙ ap₂ (λ n v. to_words 𝓕 (coefficients K n (elements 𝓕 v))) deep is

  -- the job, done and refused
  module _ (k : ℕ) (t : List ℤ) (old : List ℕ) where
    pub coefficients_done : (new : List ℕ) → done tt ≡ judge_table 𝓕 k t (length old) → MessageOf 𝓕 t new → Coefficients 𝓕 k t old new (Ok tt)
    coefficients_done new e f = record { answer = e; message = subst (λ o. Leaves o old new (MessageOf 𝓕 t new)) e f }

    pub coefficients_refused : (r : Refusal) → refused (due r) ≡ judge_table 𝓕 k t (length old) → Coefficients 𝓕 k t old old (Err r)
    coefficients_refused r e = record { answer = e; message = subst (λ o. Leaves o old old (MessageOf 𝓕 t old)) e refl }
