-- A call of writing is not refused exactly where its inputs are as they should be; then an opening may be written; and which numbers refuse it. Assumes nothing.
use Rattle.std.specs.Prelude.{◌≡◌, refl, Bool, true, ◌↔◌, List, [], ◌∷◌, ℕ, ◌*◌, eqb, length}
use Rattle.std.proofs.Common.{sym, eqb-true, eq-eqb}
use Rattle.algebra.specs.Tests.{and_both}
use Rattle.algebra.specs.Words.{PrimeField}
use Rattle.algebra.specs.WordLists.{Low}
use Rattle.job.specs.declared.Input.TheVariants.{Block, Z, R}
use Rattle.job.specs.Outcome.{done}
use Rattle.job.specs.OutcomeLaws.{pass_demand, demand_done}
use Rattle.job.specs.Sizes.{base_size, message_size, low, point_size, opening_size}
use Rattle.job.specs.SizeLaws.{limits_within}
use Rattle.words.specs.Scans.{all_below}
use Rattle.words.specs.ScanLaws.{all_below_lem, below_all}
use Rattle.places.specs.Inputs.{Lent, judge_words}
use Rattle.base_parameters.specs.Parameters.{row_lengths, LegalRows}
use Rattle.base_parameters.specs.ParameterLaws.{rows_passed, rows_done, legal_passed, lengths_of, words_of, apart_of}
use Rattle.base_rounds.specs.RowOpening.{WriteInput}
use Rattle.base_open.specs.RowWriteLaws as rows
use Rattle.open.specs.Writing.{input_lengths, buffer_lengths, write_lengths, judge_writing}

-- the lengths of message, point, challenges, opening and work
pub record WriteLengths (d c k m z r o s : ℕ) : Type 0 where
  pub message : m ≡ message_size d k
  pub point : z ≡ point_size d k
  pub challenges : r ≡ d
  pub opening : o ≡ opening_size d c k
  pub work : s ≡ 2 * message_size d k

-- what the test of all lengths says
pub write_lengths_lem : (d c k g t t' m z r o s : ℕ) → (write_lengths d c k g t t' m z r o s ≡ true) ↔ ((row_lengths d c k g t t' ≡ true) × WriteLengths d c k m z r o s)
unfolding write_lengths input_lengths buffer_lengths
write_lengths_lem d c k g t t' m z r o s = (
  λ e. let a = and_both (row_lengths d c k g t t') _ e in
      let b = and_both (input_lengths d k m z r) _ a.1 in
      let x = and_both (eqb m (message_size d k)) _ b.0 in
      let y = and_both (eqb z (point_size d k)) _ x.1 in
      let u = and_both (eqb o (opening_size d c k)) _ b.1 in
      (a.0, record { message = eqb-true _ _ x.0; point = eqb-true _ _ y.0; challenges = eqb-true _ _ y.1; opening = eqb-true _ _ u.0; work = eqb-true _ _ u.1 }),
  λ p. let 𝓛 = p.1 in
      rw (p.0, eq-eqb _ _ 𝓛.message, eq-eqb _ _ 𝓛.point, eq-eqb _ _ 𝓛.challenges, eq-eqb _ _ 𝓛.opening, eq-eqb _ _ 𝓛.work) refl,
)

-- what is lent behind g, T and T'
abbrev pub write_inputs : (m z r : List ℕ) → List Lent
write_inputs m z r = (Block, m) ∷ (Z, z) ∷ (R, r) ∷ []

module _ (𝓕 : PrimeField) where
  open 𝓕 use {modulus as P}

  -- the words of message, point and challenges
  pub record WriteLow (m z r : List ℕ) : Type 0 where
    pub message : Low P m
    pub point : Low P z
    pub challenges : Low P r

  pub write_low : (m z r : List ℕ) → (judge_words 𝓕 (write_inputs m z r) ≡ done tt) ↔ WriteLow m z r
  write_low m z r = (
    λ e. let a = demand_done (all_below 𝓕 m) _ e in
        let b = demand_done (all_below 𝓕 z) _ a.1 in
        record { message = all_below_lem 𝓕 m a.0; point = all_below_lem 𝓕 z b.0; challenges = all_below_lem 𝓕 r (demand_done (all_below 𝓕 r) _ b.1).0 },
    λ 𝓛. sym (pass_demand _ (below_all 𝓕 m 𝓛.message) (pass_demand _ (below_all 𝓕 z 𝓛.point) (pass_demand _ (below_all 𝓕 r 𝓛.challenges) refl))),
  )

  -- what is lent is as it should be, with an opening of o words and a work buffer of s
  pub record Writable (d c k : ℕ) (g t t' m z r : List ℕ) (o s : ℕ) : Type 0 where
    pub rows : LegalRows 𝓕 d c k g t t'
    pub lengths : WriteLengths d c k (length m) (length z) (length r) o s
    pub words : WriteLow m z r

  module _ (d c k : ℕ) (g t t' m z r : List ℕ) (o s : ℕ) where
    abbrev L : Bool
    L = write_lengths d c k (length g) (length t) (length t') (length m) (length z) (length r) o s

    -- a call is not refused exactly where this holds
    pub writing_exactly : (judge_writing 𝓕 d c k g t t' m z r o s ≡ done tt) ↔ Writable d c k g t t' m z r o s
    unfolding judge_writing
    writing_exactly = (
      λ e. let p = rows_passed 𝓕 d c k g t t' L (write_inputs m z r) e in
          let l = (write_lengths_lem d c k (length g) (length t) (length t') (length m) (length z) (length r) o s).0 p.lengths in
          record {
            rows = legal_passed 𝓕 p l.0;
            lengths = l.1;
            words = (write_low m z r).0 p.others;
          },
      λ 𝓦. let 𝓡 = 𝓦.rows in
          let l = (write_lengths_lem d c k (length g) (length t) (length t') (length m) (length z) (length r) o s).1 (𝓡.lengths, 𝓦.lengths) in
          rows_done 𝓕 d c k g t t' L (write_inputs m z r) (record { within = limits_within d c k 𝓡.within; lengths = l; words = 𝓡.words; others = (write_low m z r).1 𝓦.words; rows = 𝓡.legal }),
    )

    -- what may be written
    pub write_input : Writable d c k g t t' m z r o s → WriteInput 𝓕 d (low k) k (base_size c k) g t t' m z r o s
    write_input 𝓦 =
        let 𝓡 = 𝓦.rows in
        let 𝓛 = 𝓦.lengths in
        let 𝓑 = 𝓦.words in
        let n = lengths_of 𝓕 𝓡 in
        let h = words_of 𝓕 𝓡 in
        rw (𝓛.opening, 𝓛.work)
        (rows.write_input 𝓕 d c k g t t' m z r (limits_within d c k 𝓡.within)
        (record { matrix = n.row; first = n.first; second = n.second; message = 𝓛.message; point = 𝓛.point; challenges = 𝓛.challenges })
        (record { matrix = h.row; first = h.first; second = h.second; message = 𝓑.message; point = 𝓑.point; challenges = 𝓑.challenges })
        (apart_of 𝓕 𝓡).1)
