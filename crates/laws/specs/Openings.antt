-- An opening written from any message, verified with the message's codeword, the same point and challenges and any legal queries, all different,
-- is accepted with f(z), and with every other claimed value fails: 20 with i = d, at depth 0 with 21. Assumes nothing.
use Rattle.std.specs.Prelude.{◌≡◌, refl, ◌&&◌, List, [], ◌∷◌, ℕ, zero, suc, ◌+◌, ◌*◌, ◌^◌, ◌<◌, leb, ltb, length}
use Rattle.std.proofs.Common.{sym, ap₂, ◌∙◌, arith}
use Rattle.std.proofs.Math.Path.{ap}
use Rattle.std.proofs.Math.Bool.{true}
use Rattle.std.proofs.Math.Option.{Option, none, some}
use borrow.Author.Tests.{eq-eqb, eqb-true, ltb-true}
use Rattle.algebra.specs.Half.{two}
use Rattle.algebra.specs.Tests.{all, and_both}
use Rattle.algebra.specs.Words.{PrimeField}
use Rattle.algebra.specs.WordLists.{Low, low_none, low_cons, low_words, elements, elements_words, length_elements, length_words_lem}
use Rattle.basefold.specs.Layout as layout
use Rattle.basefold.specs.Checks.{Check, first_check, first_failure, checks}
use Rattle.basefold.specs.Written.{opening}
use Rattle.basefold.specs.Honest.{Queries, honest_accepted, honest_fails}
use Rattle.foldable.specs.Code.{Code, encode, dim, Legal}
use Rattle.foldable.specs.Encode.{length_encode}
use Rattle.job.specs.Outcome.{Numbers, done, ◌⨾◌}
use Rattle.job.specs.OutcomeLaws.{pass_demand}
use Rattle.job.specs.Limits.{block_size, diagonals_size}
use Rattle.job.specs.Sizes.{base_size, message_size, low, point_size, opening_size}
use Rattle.words.specs.ScanLaws.{below_all}
use Rattle.places.specs.Inputs.{judge_words}
use Rattle.base_parameters.specs.Parameters.{LegalRows}
use Rattle.base_spread.specs.LentRows.{lent_rows, codeword_rows, RowCoding}
use Rattle.base_rounds.specs.OpeningLaws.{length_opening}
use Rattle.open.specs.Writing.{value_word, opening_words}
use Rattle.verdict.specs.Verdicts.{numbers_of}
use Rattle.queries.specs.Queries.{max_queries, queries_ok, judge_queries}
use Rattle.queries.specs.QueryLaws.{queries_legal}
use Rattle.opened.specs.Opened.{opened_lengths, claim_inputs}
use Rattle.verify.specs.Verifying.{judge_verifying, verification}
use Rattle.base_parameters.specs.ParameterLaws.{within_of}
use Rattle.laws.specs.CallLaws.{coding_of, rows_of}
use Rattle.laws.specs.NotRefused.{row_judged}

-- 20 with i = d, and 21 at depth 0
abbrev pub failed : ℕ → Numbers
failed zero = (21, 0, 0)
failed (suc i) = (20, suc i, 0)

all_queries : (n i : ℕ) (us : List ℕ) → all (λ u. ltb u (block_size n i)) us ≡ true → Queries n (suc i) us
unfolding all
all_queries n i [] h = tt
all_queries n i (u ∷ us) h =
    let b = and_both (ltb u (block_size n i)) _ h in
    (ltb-true u (block_size n i) b.0, all_queries n i us b.1)

no_queries : (n : ℕ) (us : List ℕ) → length us ≡ 0 → Queries n 0 us
no_queries n [] e = tt
no_queries n (u ∷ us) e = absurd (omega arith)

-- where 7 passes
pub legal_queries : (d n : ℕ) (us : List ℕ) → queries_ok d n us ≡ true → Queries n d us
unfolding queries_ok
legal_queries zero n us h = no_queries n us (eqb-true _ _ h)
legal_queries (suc i) n us h =
    let some = and_both (leb 1 (length us)) (leb (length us) max_queries && all (λ u. ltb u (block_size n i)) us) h in
    all_queries n i us (and_both (leb (length us) max_queries) (all (λ u. ltb u (block_size n i)) us) some.1).1

module _ (𝓕 : PrimeField) where
  open 𝓕 use {modulus as P, field as F, words as W}
  open W use {el, val as word}

  module _ (d c k : ℕ) (g t t' : List ℕ) (𝓡 : LegalRows 𝓕 d c k g t t') (m z r us : List ℕ) (lm : length m ≡ message_size d k) (lz : length z ≡ point_size d k) (lr : length r ≡ d)
      (low-z : Low P z) (low-r : Low P r) (legal-us : judge_queries d (base_size c k) us ≡ done tt) where
    abbrev n : ℕ
    n = base_size c k

    abbrev C : Code F
    C = lent_rows 𝓕 k n g t t'

    coded : RowCoding 𝓕 d k n g t t'
    coded = coding_of 𝓕 𝓡

    power : 2 ^ low k ≡ k
    power = (within_of 𝓕 𝓡).power

    abbrev w : List ℕ
    w = codeword_rows 𝓕 d k n g t t' m

    abbrev o : List ℕ
    o = opening_words 𝓕 c k g t t' m z r

    depth : length (elements 𝓕 r) ≡ d
    depth = length_elements 𝓕 r ∙ lr

    legal : Legal F C (length (elements 𝓕 r))
    legal = rw depth coded.legal

    length_w : length w ≡ block_size n d
    length_w = length_words_lem 𝓕 _ ∙ length_encode F C d coded.legal (elements 𝓕 m)

    length_o : length o ≡ opening_size d c k
    length_o =
        length_words_lem 𝓕 _ ∙ length_opening F (low k) C _ _ _ legal ∙ ap (layout.opening_size n (low k)) depth
        ∙ ap (λ v. 3 * d + v + diagonals_size n d) power

    -- nothing is refused
    fine : (y : ℕ) → y < P → judge_verifying 𝓕 d c k g t t' w z y r us o ≡ done tt
    unfolding judge_verifying opened_lengths
    fine y h = rw (row_judged 𝓕 𝓡 _ (claim_inputs w z y r o) sizes words, legal-us)
      where
        sizes : opened_lengths d c k (length g) (length t) (length t') (length w) (length z) (length r) (length o) ≡ true
        sizes =
            rw (
              𝓡.lengths,
              eq-eqb (length w) (block_size n d) length_w,
              eq-eqb (length z) (point_size d k) lz,
              eq-eqb (length r) d lr,
              eq-eqb (length o) (opening_size d c k) length_o,
            )

        words : judge_words 𝓕 (claim_inputs w z y r o) ≡ done tt
        words =
            sym
            (pass_demand _ (below_all 𝓕 w (low_words 𝓕 _))
            (pass_demand _ (below_all 𝓕 z low-z)
            (pass_demand _ (below_all 𝓕 (y ∷ []) (low_cons h (low_none P)))
            (pass_demand _ (below_all 𝓕 r low-r) (pass_demand _ (below_all 𝓕 o (low_words 𝓕 _)) refl)))))

    judged : (y : ℕ) → y < P → (v : Option Check)
        → first_failure (checks F (low k) C (encode F C (length (elements 𝓕 r)) (elements 𝓕 m)) (elements 𝓕 z) (el y) (elements 𝓕 r) us (opening F (low k) C (elements 𝓕 m) (elements 𝓕 z) (elements 𝓕 r))) ≡ v
        → verification 𝓕 d c k g t t' w z y r us o ≡ done v
    unfolding verification
    judged y h v e =
        let block : elements 𝓕 w ≡ encode F C (length (elements 𝓕 r)) (elements 𝓕 m) = elements_words 𝓕 _ ∙ ap (λ x. encode F C x (elements 𝓕 m)) (sym depth) in
        ap (λ x. x ⨾ done (first_failure (checks F (low k) C (elements 𝓕 w) (elements 𝓕 z) (el y) (elements 𝓕 r) us (elements 𝓕 o)))) (fine y h)
        ∙ ap done (ap₂ (λ a b. first_failure (checks F (low k) C a (elements 𝓕 z) (el y) (elements 𝓕 r) us b)) block (elements_words 𝓕 _) ∙ e)

    queries : Queries n (length (elements 𝓕 r)) us
    queries = rw depth (legal_queries d n us (queries_legal d n us legal-us).0)

    dims : length C.G₀ ≡ 2 ^ low k
    dims = rows_of 𝓕 𝓡 ∙ sym power

    sized : length (elements 𝓕 m) ≡ dim F C (length (elements 𝓕 r))
    sized = length_elements 𝓕 m ∙ lm ∙ ap₂ (λ a b. a * 2 ^ b) (sym (rows_of 𝓕 𝓡)) (sym depth)

    sized_z : length (elements 𝓕 z) ≡ low k + length (elements 𝓕 r)
    sized_z = length_elements 𝓕 z ∙ lz ∙ omega (arith, depth)

    -- with f(z) it is accepted
    pub opening_accepted : (y : ℕ) → y ≡ value_word 𝓕 m z
        → numbers_of (verification 𝓕 d c k g t t' (codeword_rows 𝓕 d k (base_size c k) g t t' m) z y r us (opening_words 𝓕 c k g t t' m z r)) ≡ (0, 0, 0)
    opening_accepted y e =
        let h : y < P = rw e (𝓕.words.val_lt _) in
        ap numbers_of
        (judged y h none
        (honest_accepted F (low k) C (elements 𝓕 m) (elements 𝓕 z) (elements 𝓕 r) legal dims sized (two 𝓕) sized_z us queries (el y) (ap el e ∙ 𝓕.words.el_val _)))

    -- with any other value the first check fails
    pub opening_fails : (y : ℕ) → y < P → (y ≡ value_word 𝓕 m z → ⊥)
        → numbers_of (verification 𝓕 d c k g t t' (codeword_rows 𝓕 d k (base_size c k) g t t' m) z y r us (opening_words 𝓕 c k g t t' m z r)) ≡ failed d
    opening_fails y h x =
        ap numbers_of
        (judged y h (some (first_check (length (elements 𝓕 r))))
        (honest_fails F (low k) C (elements 𝓕 m) (elements 𝓕 z) (elements 𝓕 r) legal dims sized (two 𝓕) sized_z us (el y)
        (λ q. x (sym (𝓕.words.val_el y h) ∙ ap word q))))
        ∙ ap (λ i. numbers_of (done (some (first_check i)))) depth ∙ number d
      where
        number : (d : ℕ) → numbers_of (done (some (first_check d))) ≡ failed d
        number zero = refl
        number (suc i) = refl
