-- The two table jobs undo each other. Assumes nothing.
use Rattle.std.specs.Prelude.{◌≡◌, true, ℕ, ◌^◌, ℤ, length}
use Rattle.std.proofs.Math.Path.{refl, ap₂}
use Rattle.std.proofs.Common.{sym, ap, ◌∙◌, subst}
use Rattle.std.proofs.Math.Bool.{◌&&◌}
use mathlib.Core.List.{List, [], ◌∷◌, map}
use Rattle.std.proofs.lemmas.List.{length-map}
use Rattle.algebra.specs.Tests.{all, and_both}
use Rattle.algebra.specs.Words.{PrimeField}
use Rattle.algebra.specs.WordLists.{Low, elements, to_words, length_words_lem}
use Rattle.multilinear.specs.Table.{table, length_table}
use Rattle.job.specs.Outcome.{Answer}
use Rattle.job.specs.Outcome.{done, outcome, kept}
use Rattle.words.specs.ScanLaws.{all_below_lem, below_all}
use Rattle.clearance.specs.Clearances.{in_range, residue_of, clearance_of}
use Rattle.clearance.specs.ClearanceLaws.{residue_lt, clearance_residue, clearance_range, residue_clearance}
use Rattle.table_length.specs.Depth.{is_power, exponent, table_ok}
use Rattle.table_length.specs.DepthLaws.{exponent_is}
use Rattle.coefficients.specs.Job.{judge_table, MessageOf, ToCoefficients}
use Rattle.coefficients.specs.Judged.{table_passed, table_done}
use Rattle.coefficients.specs.Laws.{made, message_unique}
use Rattle.table.specs.Job.{table_of, ToTable}
use Rattle.table.specs.Judged.{message_passed, message_done}

module _ (𝓕 : PrimeField) where
  open 𝓕 use {modulus as P, field as F, words as W}
  open F use {ring as K}
  open K use {R as Element}
  open W use {el, val as word, val_lt, val_el, el_val}

  -- clearances as words, and back
  read_back : (t : List ℤ) → all (in_range 𝓕) t ≡ true → map (clearance_of 𝓕) (to_words 𝓕 (map (λ x. el (residue_of 𝓕 x)) t)) ≡ t
  unfolding all to_words
  read_back [] e = refl
  read_back (x ∷ t) e =
      let r = and_both (in_range 𝓕 x) (all (in_range 𝓕) t) e in
      ap₂ ◌∷◌ (ap (clearance_of 𝓕) (val_el (residue_of 𝓕 x) (residue_lt 𝓕 x r.0)) ∙ clearance_residue 𝓕 x r.0) (read_back t r.1)

  read_there : (v : List Element) → map (λ x. el (residue_of 𝓕 x)) (map (clearance_of 𝓕) (to_words 𝓕 v)) ≡ v
  unfolding to_words
  read_there [] = refl
  read_there (a ∷ v) = ap₂ ◌∷◌ (ap el (residue_clearance 𝓕 (word a) (val_lt a)) ∙ el_val a) (read_there v)

  in_range_lem : (v : List Element) → all (in_range 𝓕) (map (clearance_of 𝓕) (to_words 𝓕 v)) ≡ true
  unfolding all to_words
  in_range_lem [] = refl
  in_range_lem (a ∷ v) = ap₂ ◌&&◌ (clearance_range 𝓕 (word a) (val_lt a)) (in_range_lem v)

  -- the table of the message of t is t
  pub table_message : (t : List ℤ) (m : List ℕ) → is_power (length t) ≡ true → all (in_range 𝓕) t ≡ true → MessageOf 𝓕 t m → table_of 𝓕 m ≡ t
  table_message t m p r f =
      let same : length m ≡ length t = f.size ∙ sym (exponent_is _ (length t) p) in
      ap (λ n. map (clearance_of 𝓕) (to_words 𝓕 (table K (exponent n) (elements 𝓕 m)))) same
      ∙ ap (λ v. map (clearance_of 𝓕) (to_words 𝓕 v)) f.values
      ∙ read_back t r

  -- the message of the table of m is m
  length_table_of : (m : List ℕ) → is_power (length m) ≡ true → length (table_of 𝓕 m) ≡ length m
  length_table_of m p =
      length-map (to_words 𝓕 (table K (exponent (length m)) (elements 𝓕 m))) (clearance_of 𝓕)
      ∙ length_words_lem 𝓕 _ ∙ length_table K (exponent (length m)) (elements 𝓕 m) ∙ sym (exponent_is _ (length m) p)

  pub message_table : (m : List ℕ) → is_power (length m) ≡ true → Low P m → MessageOf 𝓕 (table_of 𝓕 m) m
  message_table m p l =
      let same : exponent (length (table_of 𝓕 m)) ≡ exponent (length m) = ap exponent (length_table_of m p) in
      record {
        size = exponent_is _ (length m) p ∙ ap (λ d. 2 ^ d) (sym same);
        low = l;
        values = ap (λ d. table K d (elements 𝓕 m)) same ∙ sym (read_there (table K (exponent (length m)) (elements 𝓕 m)));
      }

  -- a table that became a message comes back from it
  pub there_and_back : {k : ℕ} {t new : List ℤ} {old m work left : List ℕ} {r r' : Answer} (other : List ℤ)
      → ToCoefficients 𝓕 k t old m r → outcome r ≡ done tt → ToTable 𝓕 k m other new work left r' → length other ≡ length t → length work ≡ length t
      → (outcome r' ≡ done tt) × (new ≡ t)
  there_and_back {k} {t} {new} {old} {m} {work} other c d b o w =
      let passed = sym c.answer ∙ d in
      let legal = table_passed 𝓕 k t (length old) passed in
      let f = made (judge_table 𝓕 k t (length old)) old m (MessageOf 𝓕 t m) passed c.message in
      let same : length m ≡ length t = f.size ∙ sym (exponent_is _ (length t) legal.power) in
      let fine = message_done 𝓕 k m (length other) (length work) (ap (table_ok k) same ∙ legal.fits) legal.base (o ∙ sym same) (w ∙ sym same) (below_all 𝓕 m f.low) in
      (b.answer ∙ sym fine, b.clearances ∙ ap (λ x. kept x other (table_of 𝓕 m)) (sym fine) ∙ table_message t m legal.power legal.range f)

  -- a message that became a table comes back from it
  pub back_and_there : {k : ℕ} {old t : List ℤ} {m m' work left : List ℕ} {r r' : Answer} (other : List ℕ)
      → ToTable 𝓕 k m old t work left r → outcome r ≡ done tt → ToCoefficients 𝓕 k t other m' r' → length other ≡ length m
      → (outcome r' ≡ done tt) × (m' ≡ m)
  back_and_there {k} {old} {t} {m} {m'} {work} other b d c o =
      let passed = sym b.answer ∙ d in
      let legal = message_passed 𝓕 k m (length old) (length work) passed in
      let is : t ≡ table_of 𝓕 m = b.clearances ∙ ap (λ x. kept x old (table_of 𝓕 m)) passed in
      let same : length t ≡ length m = ap length is ∙ length_table_of m legal.power in
      let fine = table_done 𝓕 k t (length other) (ap (table_ok k) same ∙ legal.fits) legal.base (o ∙ sym same) (ap (all (in_range 𝓕)) is ∙ in_range_lem _) in (
        c.answer ∙ sym fine,
        message_unique 𝓕 t m' m (made (judge_table 𝓕 k t (length other)) other m' (MessageOf 𝓕 t m') (sym fine) c.message)
            (subst (λ x. MessageOf 𝓕 x m) (sym is) (message_table m legal.power (all_below_lem 𝓕 m legal.below))),
      )
