-- That the numbers of specs/Starred hold: `starred`, one table, one claim; `two_words`, those of base messages of two words. Assumes nothing.
use Rattle.std.specs.Prelude.{◌≡◌, refl, List, [], ◌∷◌, ℕ, ◌+◌, ◌*◌, ◌/◌, ◌%◌, ◌<◌, length, get_or, pos}
use Rattle.std.proofs.Common.{sym, ap, ap₂, ◌∙◌, div-add-mod', arith, lit<}
use Rattle.std.proofs.Math.Nat.{mod-add-mod, add-mod-mod}
use Rattle.std.proofs.Math.Decide.{dec_lt}
use Rattle.algebra.specs.Half.{two}
use Rattle.algebra.specs.Words.{𝔽₁, W₁}
use Rattle.algebra.specs.Fields.{F₁}
use Rattle.algebra.specs.Zmod.{of, add_z, mul_z, sub_z, neg_z, res_path}
use Rattle.algebra.specs.WordLists.{Low, low_none, low_cons, elements, to_words, elements_words}
use Rattle.algebra.specs.Matrix.{block, times}
use Rattle.algebra.specs.Lists.{zip, zip₄, row}
use Rattle.algebra.specs.Sums.{sum, prod}
use Rattle.algebra.specs.Bits.{bit}
use Rattle.algebra.specs.Numerals.{num}
use Rattle.algebra.specs.Tests.{all, all₂}
use Rattle.determinant.specs.Determinant.{without, sign, det}
use Rattle.foldable.specs.Code.{encode, generator, line, fold, fold_along, Codeword}
use Rattle.multilinear.specs.Polynomial.{form, monomial, fixed}
use Rattle.multilinear.specs.Corners.{corner, over_corners, eq}
use Rattle.multilinear.specs.Quadratic.{through_1}
use Rattle.multilinear.specs.Rounds.{h, final, final_sum}
use Rattle.multilinear.specs.Table.{table}
use Rattle.basefold.specs.Layout.{block_of}
use Rattle.basefold.specs.Written.{rounds, descend, blocks, opening}
use Rattle.std.proofs.Math.Option.{some}
use Rattle.basefold.specs.Checks.{sum_check, final_check, base_check, fold_check, first_failure, checks, sums_from, fold_holds, folds_at, folds_from, places, next}
use Rattle.basefold.specs.CheckLaws.{same_true, same_false, first_holds, first_fails}
use Rattle.job.specs.Outcome.{done}
use Rattle.job.specs.Limits.{rate_ok}
use Rattle.job.specs.Sizes.{k0_ok, sound_k, depth_ok, low}
use Rattle.residue.specs.Residues.{P, F, K, Element, el, word, inv}
use Rattle.coefficients.specs.Job.{MessageOf}
use Rattle.table_length.specs.Depth.{exponent_to}
use Rattle.parameters.specs.Lent.{diagonal}
use Rattle.parameters.specs.Parameters.{row_words}
use Rattle.cofactor.specs.Rows.{rows, first_columns}
use Rattle.base_matrix.specs.Inverting.{base_ok}
use Rattle.base_parameters.specs.Parameters.{row_lengths, legal_base, LegalRows}
use Rattle.base_spread.specs.LentRows.{lent_rows, codeword_rows}
use Rattle.base_settle.specs.Settling.{message, none}
use Rattle.decode.specs.Decoding.{judge_decoding, decode_lengths, settled}
use Rattle.verdict.specs.Verdicts.{numbers_of}
use Rattle.queries.specs.Distinct.{distinct}
use Rattle.queries.specs.Queries.{queries_ok, judge_queries}
use Rattle.opened.specs.Opened.{opened_lengths}
use Rattle.verify.specs.Verifying.{verification, judge_verifying}
use Rattle.laws.specs.Calls.{folded_level}
use Rattle.laws.specs.Folds.{fold_law}
use Rattle.open.specs.Writing.{value_word, opening_words}
use Rattle.laws.specs.Openings.{opening_accepted, opening_fails}
use Rattle.laws.specs.Starred.{g, t, t', m, w, spoilt, verdict, Holds, AllProved, starred_numbers, g₂, t₂, t₂', m₀, m₁, w₀, w₁, verdict₂, two_word_numbers, decodes, refuses}

legal : LegalRows 𝔽₁ 1 2 1 g t t'
unfolding row_lengths row_words rate_ok k0_ok sound_k depth_ok legal_base all all₂
legal = record { within = refl; lengths = refl; words = refl; legal = refl }

encodes : codeword_rows 𝔽₁ 1 1 2 g t t' m ≡ w
unfolding F₁ W₁ elements to_words diagonal rows row encode generator block times zip of add_z mul_z
encodes = refl

-- a fold of w, by the law: the base codeword of 5 + 7 a
fold_4 : folded_level 𝔽₁ 2 0 t t' w 4 ≡ 33 ∷ 33 ∷ []
unfolding F₁ W₁ elements to_words diagonal rows row encode generator block times zip of add_z mul_z
fold_4 = ap (λ b. folded_level 𝔽₁ 2 0 t t' b 4) (sym encodes) ∙ fold_law 𝔽₁ 0 2 1 g t t' legal m 4 refl ∙ refl

fold_1 : folded_level 𝔽₁ 2 0 t t' w 1 ≡ 12 ∷ 12 ∷ []
unfolding F₁ W₁ elements to_words diagonal rows row encode generator block times zip of add_z mul_z
fold_1 = ap (λ b. folded_level 𝔽₁ 2 0 t t' b 1) (sym encodes) ∙ fold_law 𝔽₁ 0 2 1 g t t' legal m 1 refl ∙ refl

coefficients_are : MessageOf 𝔽₁ (pos 3 ∷ pos 5 ∷ pos 4 ∷ pos 10 ∷ []) (3 ∷ 2 ∷ 1 ∷ 4 ∷ [])
unfolding F₁ W₁ elements table form monomial corner row sum prod bit exponent_to of add_z mul_z
coefficients_are = record {
  size = refl;
  low = low_cons (lit< tt) (low_cons (lit< tt) (low_cons (lit< tt) (low_cons (lit< tt) (low_none P))));
  values = ap₂ (λ a b. a ∷ b) (res_path refl) (ap₂ (λ a b. a ∷ b) (res_path refl) (ap₂ (λ a b. a ∷ b) (res_path refl) (ap (λ a. a ∷ []) (res_path refl))));
}

-- a word of a codeword of [a, b], without the inner remainders
flat : (a b k v : ℕ) → ((a * 1) % P + ((b * k) % P + 0) % P) % P ≡ v → (q : ℕ) × (a + b * k ≡ v + P * q)
flat a b k v e =
    let s : (b * k) % P + 0 ≡ (b * k) % P = omega arith in
    let f : (a * 1 + b * k) % P ≡ v =
    sym (mod-add-mod (a * 1) P _ ∙ add-mod-mod (a * 1) _ P ∙ ap (λ x. (a * 1 + x) % P) s ∙ add-mod-mod (a * 1) (b * k) P) ∙ e in
    ((a * 1 + b * k) / P, omega (arith, div-add-mod' (a * 1 + b * k) P))

-- a + 2 b = 19 and a + 3 b = 26 leave only one a - 3 b
not_both : (a b : Element) → encode F (lent_rows 𝔽₁ 1 2 g t t') 1 (a ∷ b ∷ []) ≡ elements 𝔽₁ spoilt → ⊥
unfolding F₁ W₁ elements to_words diagonal rows row encode generator block times zip of add_z mul_z
not_both a b e =
    let q = ap (to_words 𝔽₁) e in
    let x = flat a.0 b.0 2 19 (ap (λ l. get_or l 0 0) q) in
    let y = flat a.0 b.0 3 26 (ap (λ l. get_or l 1 0) q) in
    let z = flat a.0 b.0 2147483644 2147483632 (ap (λ l. get_or l 3 0) q) in
    apart a.0 b.0 x.0 y.0 z.0 x.1 y.1 z.1 (dec_lt (5 * y.0 + z.0 + 1) (6 * x.0 + b.0))
  where
    apart : (a b x y z : ℕ) → a + b * 2 ≡ 19 + P * x → a + b * 3 ≡ 26 + P * y → a + b * 2147483644 ≡ 2147483632 + P * z → Dec (5 * y + z + 1 < 6 * x + b) → ⊥
    apart a b x y z p q s (yes l) = omega arith
    apart a b x y z p q s (no n) = omega arith

no_codeword : Codeword F (lent_rows 𝔽₁ 1 2 g t t') 1 (elements 𝔽₁ spoilt) → ⊥
unfolding rows row
no_codeword c = go c.message c.sized c.encodes
  where
    go : (l : List Element) → length l ≡ 2 → encode F (lent_rows 𝔽₁ 1 2 g t t') 1 l ≡ elements 𝔽₁ spoilt → ⊥
    go [] s e = omega arith
    go (a ∷ []) s e = omega arith
    go (a ∷ b ∷ []) s e = not_both a b e
    go (a ∷ b ∷ x ∷ l) s e = omega arith

nothing_due : (b old space : List ℕ) → length old ≡ 2 → length space ≡ 4 → judge_decoding 𝔽₁ 1 2 1 g t t' b 2 4 ≡ done tt → judge_decoding 𝔽₁ 1 2 1 g t t' b (length old) (length space) ≡ done tt
nothing_due b old space p q e = rw (p, q) e

decodes_w : Holds (decodes w m)
unfolding judge_decoding decode_lengths row_lengths row_words rate_ok k0_ok sound_k depth_ok legal_base all all₂ F₁ W₁ elements to_words diagonal rows row encode generator block times zip of add_z mul_z
decodes_w old space p q =
    settled (nothing_due w old space p q refl)
    (message refl refl (low_cons (lit< tt) (low_cons (lit< tt) (low_none P))) encodes) refl

refuses_spoilt : Holds (refuses spoilt)
unfolding judge_decoding decode_lengths row_lengths row_words rate_ok k0_ok sound_k depth_ok legal_base all all₂
refuses_spoilt old space p q = settled (nothing_due spoilt old space p q refl) (none refl no_codeword refl) refl

low_1 : (x : ℕ) → x < P → Low P (x ∷ [])
low_1 x h = low_cons h (low_none P)

-- the rounds and the final value by computing, the block by the law
block_w : encode F (lent_rows 𝔽₁ 1 2 g t t') 1 (elements 𝔽₁ m) ≡ elements 𝔽₁ w
block_w = sym (elements_words 𝔽₁ (encode F (lent_rows 𝔽₁ 1 2 g t t') 1 (elements 𝔽₁ m))) ∙ ap (elements 𝔽₁) encodes

written_3 : opening_words 𝔽₁ 2 1 g t t' m (3 ∷ []) (4 ∷ []) ≡ 2147483637 ∷ 36 ∷ 152 ∷ 33 ∷ 33 ∷ 33 ∷ []
unfolding F₁ W₁ elements to_words diagonal rows row encode generator block times zip zip₄ fold opening rounds blocks descend h final over_corners form monomial corner eq low sum prod bit fixed num of add_z mul_z sub_z neg_z
written_3 =
    ap (λ l. 2147483637 ∷ 36 ∷ 152 ∷ 33 ∷ l)
    (ap (λ b. to_words 𝔽₁ (fold_along F 2 (el 4) (elements 𝔽₁ t) (elements 𝔽₁ t') b)) block_w ∙ fold_4)

written_0 : opening_words 𝔽₁ 2 1 g t t' m (0 ∷ []) (1 ∷ []) ≡ 5 ∷ 0 ∷ 2147483628 ∷ 12 ∷ 12 ∷ 12 ∷ []
unfolding F₁ W₁ elements to_words diagonal rows row encode generator block times zip zip₄ fold opening rounds blocks descend h final over_corners form monomial corner eq low sum prod bit fixed num of add_z mul_z sub_z neg_z
written_0 =
    ap (λ l. 5 ∷ 0 ∷ 2147483628 ∷ 12 ∷ l)
    (ap (λ b. to_words 𝔽₁ (fold_along F 2 (el 1) (elements 𝔽₁ t) (elements 𝔽₁ t') b)) block_w ∙ fold_1)

value_3 : value_word 𝔽₁ m (3 ∷ []) ≡ 26
unfolding F₁ W₁ elements form monomial row sum prod bit of add_z mul_z
value_3 = refl

value_0 : value_word 𝔽₁ m (0 ∷ []) ≡ 5
unfolding F₁ W₁ elements form monomial row sum prod bit of add_z mul_z
value_0 = refl

accepted_3 : verdict 3 26 4 (0 ∷ 1 ∷ []) (2147483637 ∷ 36 ∷ 152 ∷ 33 ∷ 33 ∷ 33 ∷ []) ≡ (0, 0, 0)
unfolding judge_queries queries_ok distinct all low
accepted_3 =
    sym (ap₂ (λ b o. numbers_of (verification 𝔽₁ 1 2 1 g t t' b (3 ∷ []) 26 (4 ∷ []) (0 ∷ 1 ∷ []) o)) encodes written_3)
    ∙ opening_accepted 𝔽₁ 1 2 1 g t t' legal m (3 ∷ []) (4 ∷ []) (0 ∷ 1 ∷ []) refl refl refl (low_1 3 (lit< tt)) (low_1 4 (lit< tt)) refl 26 (sym value_3)

refused_3 : verdict 3 27 4 (0 ∷ 1 ∷ []) (2147483637 ∷ 36 ∷ 152 ∷ 33 ∷ 33 ∷ 33 ∷ []) ≡ (20, 1, 0)
unfolding judge_queries queries_ok distinct all low
refused_3 =
    sym (ap₂ (λ b o. numbers_of (verification 𝔽₁ 1 2 1 g t t' b (3 ∷ []) 27 (4 ∷ []) (0 ∷ 1 ∷ []) o)) encodes written_3)
    ∙ opening_fails 𝔽₁ 1 2 1 g t t' legal m (3 ∷ []) (4 ∷ []) (0 ∷ 1 ∷ []) refl refl refl (low_1 3 (lit< tt)) (low_1 4 (lit< tt)) refl 27 (lit< tt) (λ e. omega (arith, e ∙ value_3))

-- eq at z = 0 and r = 1
eq_0 : word (eq K (elements 𝔽₁ (0 ∷ [])) (elements 𝔽₁ (1 ∷ []))) ∷ [] ≡ 0 ∷ []
unfolding F₁ W₁ elements eq prod of add_z mul_z sub_z neg_z
eq_0 = refl

accepted_0 : verdict 0 5 1 (0 ∷ []) (5 ∷ 0 ∷ 2147483628 ∷ 12 ∷ 12 ∷ 12 ∷ []) ≡ (0, 0, 0)
unfolding judge_queries queries_ok distinct all low
accepted_0 =
    sym (ap₂ (λ b o. numbers_of (verification 𝔽₁ 1 2 1 g t t' b (0 ∷ []) 5 (1 ∷ []) (0 ∷ []) o)) encodes written_0)
    ∙ opening_accepted 𝔽₁ 1 2 1 g t t' legal m (0 ∷ []) (1 ∷ []) (0 ∷ []) refl refl refl (low_1 0 (lit< tt)) (low_1 1 (lit< tt)) refl 5 (sym value_0)

-- with 13 for 12 the sum, the final check (eq is 0) and the base checks hold; the line's value is 12
line_12 : word (line F (el 1) (el 2) (el 2147483645) (el 19) (el 2147483638)) ≡ 12
unfolding elements to_words diagonal zip₄
line_12 = ap (λ l. get_or l 0 0) fold_1

abbrev o : List Element
o = elements 𝔽₁ (5 ∷ 0 ∷ 2147483628 ∷ 13 ∷ 13 ∷ 13 ∷ [])

first_spoilt : first_failure (checks F 0 (lent_rows 𝔽₁ 1 2 g t t') (elements 𝔽₁ w) (elements 𝔽₁ (0 ∷ [])) (el 5) (elements 𝔽₁ (1 ∷ [])) (0 ∷ []) o) ≡ some (fold_check 0 0)
unfolding F₁ W₁ elements diagonal rows checks sums_from fold_holds folds_at folds_from places next block_of final_sum over_corners form monomial corner eq row sum prod bit encode generator times zip num of add_z mul_z sub_z neg_z
first_spoilt =
    first_holds (sum_check 1) _ _ (same_true F _ _ (res_path refl))
    ∙ first_holds final_check _ _ (same_true F _ _ (zero ∙ sym (through_1 K (inv (num K 2)) (F.mul_inv (num K 2) (two 𝔽₁)) (el 5) (el 0) (el 2147483628))))
    ∙ first_holds (base_check 0) _ _ (same_true F _ _ (res_path refl))
    ∙ first_holds (base_check 1) _ _ (same_true F _ _ (res_path refl))
    ∙ first_fails (fold_check 0 0) _ _ (same_false F _ _ (λ e. let n : ◌≡◌ {A = ℕ} 12 13 = sym line_12 ∙ ap word e in omega arith))
  where
    zero : final_sum K 0 (el 13 ∷ []) (el 0 ∷ []) (el 1 ∷ []) ≡ el 0
    zero = res_path refl

spoilt_0 : verdict 0 5 1 (0 ∷ []) (5 ∷ 0 ∷ 2147483628 ∷ 13 ∷ 13 ∷ 13 ∷ []) ≡ (23, 0, 0)
unfolding verification judge_verifying opened_lengths judge_queries queries_ok distinct row_lengths row_words rate_ok k0_ok sound_k depth_ok legal_base low all all₂
spoilt_0 = ap (λ v. numbers_of (done v)) first_spoilt

-- the claim
pub starred : AllProved starred_numbers
starred = (refl, (refl, (coefficients_are, (encodes, (decodes_w, (refuses_spoilt, (fold_4, (written_3, (accepted_3, (refused_3, (written_0, (eq_0, (accepted_0, (spoilt_0, tt))))))))))))))

legal_0 : LegalRows 𝔽₁ 0 2 2 g₂ [] []
unfolding row_lengths row_words rate_ok k0_ok sound_k depth_ok legal_base base_ok first_columns rows row det sign without sum all all₂ F₁ W₁ elements of add_z mul_z sub_z neg_z
legal_0 = record { within = refl; lengths = refl; words = refl; legal = refl }

legal_1 : LegalRows 𝔽₁ 1 2 2 g₂ t₂ t₂'
unfolding row_lengths row_words rate_ok k0_ok sound_k depth_ok legal_base base_ok first_columns rows row det sign without sum all all₂ F₁ W₁ elements of add_z mul_z sub_z neg_z
legal_1 = record { within = refl; lengths = refl; words = refl; legal = refl }

encodes_0 : codeword_rows 𝔽₁ 0 2 4 g₂ [] [] m₀ ≡ w₀
unfolding F₁ W₁ elements to_words diagonal rows row encode generator block times zip of add_z mul_z
encodes_0 = refl

encodes_1 : codeword_rows 𝔽₁ 1 2 4 g₂ t₂ t₂' m₁ ≡ w₁
unfolding F₁ W₁ elements to_words diagonal rows row encode generator block times zip of add_z mul_z
encodes_1 = refl

-- by the law: the base codeword of [5 + 2 a, 7 + a]
folds_1 : folded_level 𝔽₁ 4 0 t₂ t₂' w₁ 4 ≡ 24 ∷ 35 ∷ 46 ∷ 57 ∷ []
unfolding F₁ W₁ elements to_words diagonal rows row encode generator block times zip of add_z mul_z
folds_1 = ap (λ b. folded_level 𝔽₁ 4 0 t₂ t₂' b 4) (sym encodes_1) ∙ fold_law 𝔽₁ 0 2 2 g₂ t₂ t₂' legal_1 m₁ 4 refl ∙ refl

written_2 : opening_words 𝔽₁ 2 2 g₂ [] [] m₀ (3 ∷ []) [] ≡ m₀
unfolding F₁ W₁ elements to_words opening rounds blocks final form monomial row low sum prod fixed of add_z mul_z
written_2 = refl

value_2 : value_word 𝔽₁ m₀ (3 ∷ []) ≡ 26
unfolding F₁ W₁ elements form monomial row sum prod bit of add_z mul_z
value_2 = refl

accepted_2 : verdict₂ 26 ≡ (0, 0, 0)
unfolding judge_queries queries_ok distinct low
accepted_2 =
    sym (ap₂ (λ b o. numbers_of (verification 𝔽₁ 0 2 2 g₂ [] [] b (3 ∷ []) 26 [] [] o)) encodes_0 written_2)
    ∙ opening_accepted 𝔽₁ 0 2 2 g₂ [] [] legal_0 m₀ (3 ∷ []) [] [] refl refl refl (low_1 3 (lit< tt)) (low_none P) refl 26 (sym value_2)

refused_2 : verdict₂ 27 ≡ (21, 0, 0)
unfolding judge_queries queries_ok distinct low
refused_2 =
    sym (ap₂ (λ b o. numbers_of (verification 𝔽₁ 0 2 2 g₂ [] [] b (3 ∷ []) 27 [] [] o)) encodes_0 written_2)
    ∙ opening_fails 𝔽₁ 0 2 2 g₂ [] [] legal_0 m₀ (3 ∷ []) [] [] refl refl refl (low_1 3 (lit< tt)) (low_none P) refl 27 (lit< tt) (λ e. omega (arith, e ∙ value_2))

pub two_words : AllProved two_word_numbers
two_words = (encodes_0, (encodes_1, (folds_1, (written_2, (accepted_2, (refused_2, tt))))))
