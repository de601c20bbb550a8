-- Where base matrix and diagonals are legal, lengths exact and words below the modulus, encoding, folding and decoding are refused by none of 1 to 6 and 13; and
-- the levels below the top one are legal again. Assumes nothing.
use Rattle.std.specs.Prelude.{◌≡◌, refl, Bool, take, drop}
use Rattle.std.proofs.Math.Path.{sym, ap₂}
use Rattle.std.proofs.Common.{◌∙◌}
use Rattle.std.proofs.Math.Bool.{true, ◌&&◌}
use mathlib.Core.List.{List, [], ◌∷◌}
use Prim.Native.Nat.{ℕ, suc, ◌-◌, ◌<◌, ◌≤◌}
use native.Mathlib.Omega.{arith}
use Rattle.std.proofs.Math.ListN.{length, length-take}
use borrow.Author.Tests.{eq-eqb, le-leb}
use Rattle.algebra.specs.Words.{PrimeField}
use Rattle.algebra.specs.Tests.{all₂_take, all₂_drop, and_both}
use Rattle.algebra.specs.WordLists.{Low, low_none, low_cons, low_take, low_drop}
use Rattle.job.specs.declared.Input.TheVariants.{Block}
use Rattle.job.specs.Outcome.{done}
use Rattle.job.specs.OutcomeLaws.{pass_demand}
use Rattle.job.specs.Limits.{max_depth, rate_ok, block_size, diagonals_size}
use Rattle.job.specs.Sizes.{k0_ok, depth_ok, in_limits, base_size, message_size, matrix_size, point_size}
use Rattle.job.specs.SizeLaws.{depth_by_point, limits_done, limits_within, limits_size, WithinSize, within_size}
use Rattle.words.specs.Scans.{all_below, all_differ}
use Rattle.words.specs.ScanLaws.{below_all}
use Rattle.places.specs.Inputs.{Lent, judge_words}
use Rattle.parameters.specs.Lent.{diagonal}
use Rattle.parameters.specs.LentLaws.{length_diagonal, diagonals_mono}
use Rattle.parameters.specs.Parameters.{row_words}
use Rattle.base_parameters.specs.Parameters.{row_lengths, judge_rows, LegalRows}
use Rattle.base_parameters.specs.ParameterLaws.{rows_done, lengths_of, words_of, apart_of}
use Rattle.encode.specs.Encoding.{encode_lengths, judge_encoding}
use Rattle.fold_limits.specs.Limits.{level_ok, lengths_ok}
use Rattle.fold.specs.Job.{fold_inputs, judge_folding}
use Rattle.decode.specs.Decoding.{decode_lengths, judge_decoding}
use Rattle.laws.specs.Calls.{levels_below}

-- depth d or below
depth_below : (d i k : ℕ) → i ≤ d → WithinSize d k → depth_ok k i ≡ true
depth_below d i k h 𝓦 = sym (depth_by_point k i) ∙ le-leb (point_size i k) max_depth (omega (arith, 𝓦.point))

module _ (𝓕 : PrimeField) where
  open 𝓕 use {modulus as P}

  module _ {d c k : ℕ} {g t t' : List ℕ} (𝓡 : LegalRows 𝓕 d c k g t t') where
    -- the words of a base block
    abbrev n : ℕ
    n = base_size c k

    in_limits_lem : in_limits d c k ≡ true
    in_limits_lem = limits_within d c k 𝓡.within

    sizes_within : WithinSize d k
    sizes_within = within_size d k (limits_size d c k in_limits_lem)

    rate_and_k0 : (rate_ok c ≡ true) × (k0_ok k ≡ true)
    rate_and_k0 = and_both (rate_ok c) (k0_ok k) (and_both (depth_ok k d) _ in_limits_lem).1

    -- exact lengths, and words below the modulus behind g, T and T'
    pub row_judged : (l : Bool) (xs : List Lent) → l ≡ true → judge_words 𝓕 xs ≡ done tt → judge_rows 𝓕 d c k g t t' l xs ≡ done tt
    row_judged l xs e f = rows_done 𝓕 d c k g t t' l xs (record { within = in_limits_lem; lengths = e; words = 𝓡.words; others = f; rows = 𝓡.legal })

    block_below : (w : List ℕ) → Low P w → judge_words 𝓕 ((Block, w) ∷ []) ≡ done tt
    block_below w low = sym (pass_demand _ (below_all 𝓕 w low) refl)

    -- a message with residues, and a result of exact length
    pub encoding_done : (m : List ℕ) (o : ℕ) → length m ≡ message_size d k → Low P m → o ≡ block_size (base_size c k) d → judge_encoding 𝓕 d c k g t t' m o ≡ done tt
    unfolding judge_encoding encode_lengths
    encoding_done m o lm low lo =
        row_judged (encode_lengths d c k (length g) (length t) (length t') (length m) o) ((Block, m) ∷ [])
        (rw (𝓡.lengths, eq-eqb (length m) (message_size d k) lm, eq-eqb o (block_size n d) lo)) (block_below m low)

    -- a block of residues, a result and a work buffer of exact length
    pub decoding_done : (b : List ℕ) (m s : ℕ) → length b ≡ block_size (base_size c k) d → Low P b → m ≡ message_size d k → s ≡ block_size (base_size c k) d
        → judge_decoding 𝓕 d c k g t t' b m s ≡ done tt
    unfolding judge_decoding decode_lengths
    decoding_done b m s lb low lm ls =
        row_judged (decode_lengths d c k (length g) (length t) (length t') (length b) m s) ((Block, b) ∷ [])
        (rw (𝓡.lengths, eq-eqb (length b) (block_size n d) lb, eq-eqb m (message_size d k) lm, eq-eqb s (block_size n d) ls)) (block_below b low)

    -- level i of the diagonals
    level_ok_lem : (i : ℕ) → i < d → level_ok k (suc i) ≡ true
    unfolding level_ok
    level_ok_lem i h = ap₂ ◌&&◌ (le-leb 1 (suc i) (omega arith)) (depth_below d (suc i) k h sizes_within)

    level_lengths : (i b o : ℕ) → i < d → b ≡ block_size n (suc i) → o ≡ block_size n i → lengths_ok (suc i) n (length (diagonal n t i)) (length (diagonal n t' i)) b o ≡ true
    unfolding lengths_ok
    level_lengths i b o h lb lo =
        let one : suc i - 1 ≡ i = omega arith in
        let l = lengths_of 𝓕 𝓡 in
        let size : (s : List ℕ) → length s ≡ diagonals_size n d → length (diagonal n s i) ≡ block_size n i = λ s e. length_diagonal n d i s h (omega arith) in
        rw (
          one,
          eq-eqb (length (diagonal n t i)) (block_size n i) (size t l.first),
          eq-eqb (length (diagonal n t' i)) (block_size n i) (size t' l.second),
          eq-eqb b (block_size n (suc i)) lb,
          eq-eqb o (block_size n i) lo,
        )

    level_words_lem : (i : ℕ) (b : List ℕ) (a : ℕ) → Low P b → a < P → judge_words 𝓕 (fold_inputs (diagonal n t i) (diagonal n t' i) b a) ≡ done tt
    unfolding diagonal
    level_words_lem i b a low la =
        let part : (s : List ℕ) → Low P s → all_below 𝓕 (take (block_size n i) (drop (diagonals_size n i) s)) ≡ true = λ s l. below_all 𝓕 (take (block_size n i) (drop (diagonals_size n i) s)) (low_take (block_size n i) (low_drop (diagonals_size n i) l)) in
        let w = words_of 𝓕 𝓡 in
        sym (pass_demand _ (part t w.first) (pass_demand _ (part t' w.second) (pass_demand _ (below_all 𝓕 b low) (pass_demand _ (below_all 𝓕 (a ∷ []) (low_cons la (low_none P))) refl))))

    level_apart : (i : ℕ) → all_differ (diagonal n t i) (diagonal n t' i) ≡ true
    unfolding diagonal
    level_apart i = all₂_take _ (block_size n i) _ _ (all₂_drop _ (diagonals_size n i) t t' (apart_of 𝓕 𝓡).1)

    -- a block of residues of the level above, a challenge and a result of exact length
    pub folding_done : (i : ℕ) (b : List ℕ) (a o : ℕ) → i < d → length b ≡ block_size (base_size c k) (suc i) → Low P b → a < P → o ≡ block_size (base_size c k) i
        → judge_folding 𝓕 (suc i) c k (diagonal (base_size c k) t i) (diagonal (base_size c k) t' i) b a o ≡ done tt
    unfolding judge_folding
    folding_done i b a o h lb low la lo = rw (level_ok_lem i h, rate_and_k0.0, rate_and_k0.1, level_lengths i (length b) o h lb lo, level_words_lem i b a low la, level_apart i)

    -- the levels below depth i
    pub rows_below : (i : ℕ) → i ≤ d → LegalRows 𝓕 i c k g (levels_below (base_size c k) i t) (levels_below (base_size c k) i t')
    unfolding row_lengths row_words
    rows_below i h =
        let l = lengths_of 𝓕 𝓡 in
        let w = words_of 𝓕 𝓡 in
        let s = diagonals_size n i in
        let less = diagonals_mono n i d h in
        let size : (x : List ℕ) → length x ≡ diagonals_size n d → length (take s x) ≡ s = λ x e. length-take s x ∙ omega arith in
        record {
          within = sym (limits_done i c k (rw (depth_below d i k h sizes_within, rate_and_k0.0, rate_and_k0.1)));
          lengths = rw (eq-eqb (length g) (matrix_size c k) l.row, eq-eqb (length (take s t)) s (size t l.first), eq-eqb (length (take s t')) s (size t' l.second));
          words = rw (below_all 𝓕 g w.row, below_all 𝓕 (take s t) (low_take s w.first), below_all 𝓕 (take s t') (low_take s w.second));
          legal = rw ((apart_of 𝓕 𝓡).0, all₂_take _ s t t' (apart_of 𝓕 𝓡).1);
        }
