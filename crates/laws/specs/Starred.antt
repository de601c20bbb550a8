-- The order's numbers that are proved from the definitions: one table, one claim; and a second one of base messages of two words. That they hold is in proofs/Starred. Assumes nothing.
use Rattle.std.specs.Prelude.{◌≡◌, List, [], ◌∷◌, ℕ, length, replicate, ℤ, pos, negsuc}
use Rattle.algebra.specs.Words.{𝔽₁}
use Rattle.algebra.specs.WordLists.{elements}
use Rattle.multilinear.specs.Corners.{eq}
use Rattle.job.specs.Outcome.{Numbers}
use Rattle.job.specs.declared.Refusal.TheVariants.{NoCodeword}
use Rattle.std.specs.Prelude.{Ok, Err}
use Rattle.residue.specs.Residues.{K, word}
use Rattle.clearance.specs.Clearances.{residue_of, clearance_of}
use Rattle.coefficients.specs.Job.{MessageOf}
use Rattle.base_spread.specs.LentRows.{codeword_rows}
use Rattle.decode.specs.Decoding.{Decoded}
use Rattle.verdict.specs.Verdicts.{numbers_of}
use Rattle.verify.specs.Verifying.{verification}
use Rattle.laws.specs.Calls.{folded_level}
use Rattle.open.specs.Writing.{opening_words}

-- d = 1, c = 2, and one word a base message
abbrev pub g : List ℕ
g = 1 ∷ 1 ∷ []

abbrev pub t : List ℕ
t = 2 ∷ 3 ∷ []

abbrev pub t' : List ℕ
t' = 2147483645 ∷ 2147483644 ∷ []

abbrev pub m : List ℕ
m = 5 ∷ 7 ∷ []

abbrev pub w : List ℕ
w = 19 ∷ 26 ∷ 2147483638 ∷ 2147483631 ∷ []

-- the block w with another last word
abbrev pub spoilt : List ℕ
spoilt = 19 ∷ 26 ∷ 2147483638 ∷ 2147483632 ∷ []

-- the verdict on an opening of w at z, by the challenge r
abbrev pub verdict : (z y r : ℕ) → (us o : List ℕ) → Numbers
verdict z y r us o = numbers_of (verification 𝔽₁ 1 2 1 g t t' w (z ∷ []) y (r ∷ []) us o)

-- what is claimed: words that a definition gives; clearances; verdicts; the coefficients of a table; decoding, whatever the buffers held
pub data Case : Type 0 where
  gives : (is should : List ℕ) → Case
  reads : (is should : ℤ) → Case
  says : (is should : Numbers) → Case
  coefficients : List ℤ → List ℕ → Case
  decodes : (block message : List ℕ) → Case
  refuses : (block : List ℕ) → Case

abbrev pub Holds : Case → Type 0
Holds (gives a b) = a ≡ b
Holds (reads a b) = a ≡ b
Holds (says a b) = a ≡ b
Holds (coefficients e c) = MessageOf 𝔽₁ e c
Holds (decodes b c) =
    (old space : List ℕ) → length old ≡ 2 → length space ≡ 4 → Decoded 𝔽₁ 1 2 1 g t t' b old space (Ok tt) c (replicate (length space) 0)
Holds (refuses b) =
    (old space : List ℕ) → length old ≡ 2 → length space ≡ 4 → Decoded 𝔽₁ 1 2 1 g t t' b old space (Err NoCodeword) old (replicate (length space) 0)

abbrev pub AllProved : List Case → Type 0
AllProved [] = Unit {0}
AllProved (c ∷ cs) = Holds c × AllProved cs

abbrev pub starred_numbers : List Case
starred_numbers =
    gives (residue_of 𝔽₁ (negsuc 0) ∷ []) (2147483646 ∷ [])
    ∷ reads (clearance_of 𝔽₁ 1073741824) (negsuc 1073741822)
    ∷ coefficients (pos 3 ∷ pos 5 ∷ pos 4 ∷ pos 10 ∷ []) (3 ∷ 2 ∷ 1 ∷ 4 ∷ [])
    ∷ gives (codeword_rows 𝔽₁ 1 1 2 g t t' m) w
    ∷ decodes w m
    ∷ refuses spoilt
    ∷ gives (folded_level 𝔽₁ 2 0 t t' w 4) (33 ∷ 33 ∷ [])
    ∷ gives (opening_words 𝔽₁ 2 1 g t t' m (3 ∷ []) (4 ∷ [])) (2147483637 ∷ 36 ∷ 152 ∷ 33 ∷ 33 ∷ 33 ∷ [])
    ∷ says (verdict 3 26 4 (0 ∷ 1 ∷ []) (2147483637 ∷ 36 ∷ 152 ∷ 33 ∷ 33 ∷ 33 ∷ [])) (0, 0, 0)
    ∷ says (verdict 3 27 4 (0 ∷ 1 ∷ []) (2147483637 ∷ 36 ∷ 152 ∷ 33 ∷ 33 ∷ 33 ∷ [])) (20, 1, 0)
    ∷ gives (opening_words 𝔽₁ 2 1 g t t' m (0 ∷ []) (1 ∷ [])) (5 ∷ 0 ∷ 2147483628 ∷ 12 ∷ 12 ∷ 12 ∷ [])
    ∷ gives (word (eq K (elements 𝔽₁ (0 ∷ [])) (elements 𝔽₁ (1 ∷ []))) ∷ []) (0 ∷ [])
    ∷ says (verdict 0 5 1 (0 ∷ []) (5 ∷ 0 ∷ 2147483628 ∷ 12 ∷ 12 ∷ 12 ∷ [])) (0, 0, 0)
    ∷ says (verdict 0 5 1 (0 ∷ []) (5 ∷ 0 ∷ 2147483628 ∷ 13 ∷ 13 ∷ 13 ∷ [])) (23, 0, 0)
    ∷ []

-- two words a base message: c = 2, base rows of 4 words
abbrev pub g₂ : List ℕ
g₂ = 1 ∷ 1 ∷ 1 ∷ 1 ∷ 1 ∷ 2 ∷ 3 ∷ 4 ∷ []

abbrev pub t₂ : List ℕ
t₂ = 2 ∷ 3 ∷ 4 ∷ 5 ∷ []

abbrev pub t₂' : List ℕ
t₂' = 2147483645 ∷ 2147483644 ∷ 2147483643 ∷ 2147483642 ∷ []

-- a message of depth 0, and one of depth 1, whose halves have two words each
abbrev pub m₀ : List ℕ
m₀ = 5 ∷ 7 ∷ []

abbrev pub m₁ : List ℕ
m₁ = 5 ∷ 7 ∷ 2 ∷ 1 ∷ []

abbrev pub w₀ : List ℕ
w₀ = 12 ∷ 19 ∷ 26 ∷ 33 ∷ []

abbrev pub w₁ : List ℕ
w₁ = 18 ∷ 31 ∷ 46 ∷ 63 ∷ 6 ∷ 7 ∷ 6 ∷ 3 ∷ []

abbrev pub verdict₂ : ℕ → Numbers
verdict₂ y = numbers_of (verification 𝔽₁ 0 2 2 g₂ [] [] w₀ (3 ∷ []) y [] [] m₀)

abbrev pub two_word_numbers : List Case
two_word_numbers =
    gives (codeword_rows 𝔽₁ 0 2 4 g₂ [] [] m₀) w₀
    ∷ gives (codeword_rows 𝔽₁ 1 2 4 g₂ t₂ t₂' m₁) w₁
    ∷ gives (folded_level 𝔽₁ 4 0 t₂ t₂' w₁ 4) (24 ∷ 35 ∷ 46 ∷ 57 ∷ [])
    ∷ gives (opening_words 𝔽₁ 2 2 g₂ [] [] m₀ (3 ∷ []) []) m₀
    ∷ says (verdict₂ 26) (0, 0, 0)
    ∷ says (verdict₂ 27) (21, 0, 0)
    ∷ []
