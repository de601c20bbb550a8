-- A table has exactly one message. Assumes nothing.
use Rattle.std.specs.Prelude.{◌≡◌, true, ℕ, ◌^◌, ℤ, length}
use Rattle.std.proofs.Math.Path.{refl, ap}
use Rattle.std.proofs.Common.{sym, ◌∙◌, subst}
use mathlib.Core.List.{List, [], ◌∷◌, map}
use Rattle.std.proofs.lemmas.List.{length-map}
use Rattle.algebra.specs.Words.{PrimeField}
use Rattle.algebra.specs.WordLists.{elements, to_words, length_elements, length_words_lem, elements_words, words_elements, low_words}
use Rattle.multilinear.specs.Table.{table, coefficients, length_coefficients, table_coefficients, table_injective}
use Rattle.job.specs.Outcome.{Outcome, done}
use Rattle.clearance.specs.Clearances.{residue_of}
use Rattle.table_length.specs.Depth.{is_power, exponent}
use Rattle.table_length.specs.DepthLaws.{exponent_is}
use Rattle.coefficients.specs.Job.{MessageOf, Leaves}

-- a job that is done has left what it makes
pub made : {A B : Type 0} (o : Outcome A) {a : A} (old new : List B) (M : Type 0) → o ≡ done a → Leaves o old new M → M
made o old new M e l = subst (λ x. Leaves x old new M) e l

module _ (𝓕 : PrimeField) where
  open 𝓕 use {field as F, words as W}
  open F use {ring as K}
  open W use {el}

  -- the elements of a table's residues
  values : (t : List ℤ) → elements 𝓕 (map (residue_of 𝓕) t) ≡ map (λ x. el (residue_of 𝓕 x)) t
  unfolding elements
  values [] = refl
  values (x ∷ t) = ap (λ l. el (residue_of 𝓕 x) ∷ l) (values t)

  -- the message of a table
  pub message_found : (t : List ℤ) → is_power (length t) ≡ true → MessageOf 𝓕 t (to_words 𝓕 (coefficients K (exponent (length t)) (elements 𝓕 (map (residue_of 𝓕) t))))
  message_found t e =
      let d = exponent (length t) in
      let v = elements 𝓕 (map (residue_of 𝓕) t) in
      let size : length v ≡ 2 ^ d = length_elements 𝓕 (map (residue_of 𝓕) t) ∙ length-map t (residue_of 𝓕) ∙ exponent_is _ (length t) e in
      record {
        size = length_words_lem 𝓕 (coefficients K d v) ∙ length_coefficients K d v size;
        low = low_words 𝓕 (coefficients K d v);
        values = ap (table K d) (elements_words 𝓕 (coefficients K d v)) ∙ table_coefficients K d v size ∙ values t;
      }

  -- no other list of words is one
  pub message_unique : (t : List ℤ) (m m' : List ℕ) → MessageOf 𝓕 t m → MessageOf 𝓕 t m' → m ≡ m'
  message_unique t m m' p q =
      let d = exponent (length t) in
      sym (words_elements 𝓕 m p.low)
      ∙ ap (to_words 𝓕)
      (table_injective K d (elements 𝓕 m) (elements 𝓕 m') (length_elements 𝓕 m ∙ p.size) (length_elements 𝓕 m' ∙ q.size) (p.values ∙ sym q.values))
      ∙ words_elements 𝓕 m' q.low
