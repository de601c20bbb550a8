-- What filling by rule leaves, said of calls: no job over the second field refuses it, and what encoding then writes is the list of values of one polynomial in one
-- variable, its coefficients the message in bit-reversed order, at the powers 0 to n_d - 1 of the table's root of the order n_d.
--     filled_one, filled_row, filled_encodes
-- Assumes nothing.
use Rattle.std.specs.Prelude.{◌≡◌, List, map, ℕ, ◌+◌, ◌*◌, ◌^◌}
use Rattle.std.proofs.Common.{sym, ap, subst, ◌∙◌, one-mul}
use Rattle.algebra.specs.Fields.{F₂}
use Rattle.algebra.specs.Words.{𝔽₂}
use Rattle.algebra.specs.WordLists.{elements, to_words}
use Rattle.roots.specs.RootCode.{powers, value, reversed}
use Rattle.roots.specs.SecondField.{root₂}
use Rattle.job.specs.Outcome.{Answer}
use Rattle.job.specs.Outcome.{done, outcome}
use Rattle.job.specs.Limits.{block_size}
use Rattle.job.specs.Sizes.{base_size}
use Rattle.base_parameters.specs.Parameters.{LegalRows}
use Rattle.base_spread.specs.LentRows.{codeword_rows}
use Rattle.fill_roots.specs.Filling.{exponent, RootsFilled}
use Rattle.fill_roots.specs.FillingLaws.{done_exactly, filled_legal, filled_values}
use Rattle.laws.specs.Calls.{ExactEncode, ResidueMessage}
use Rattle.laws.specs.FoldCalls.{encode_writes}

module _ {d c k : ℕ} {g t t' : List ℕ} {r : Answer} {g₁ t₁ t₁' : List ℕ} (𝓒 : RootsFilled d c k g t t' r g₁ t₁ t₁') (e : outcome r ≡ done tt) where
  -- the rule has one row
  pub filled_one : k ≡ 1
  filled_one = ((done_exactly d c k g t t' r g₁ t₁ t₁' 𝓒).0 e).one

  -- legal: all that is said of legal base matrix and diagonals is said of what was filled
  pub filled_row : LegalRows 𝔽₂ d c k g₁ t₁ t₁'
  filled_row = subst (λ k. LegalRows 𝔽₂ d c k g₁ t₁ t₁') (sym filled_one) (filled_legal d c k g t t' r g₁ t₁ t₁' 𝓒 e)

  -- the root that the table has for blocks of level d, of the order n_d (filled_order, fill_roots/FillingLaws)
  abbrev pub ω : F₂.ring.R
  ω = root₂ (exponent c + d)

  -- a call of encoding on what a call of filling has left, with any message of residues, is done, and writes these values
  pub filled_encodes : {m : List ℕ} {a : Answer} {out : List ℕ} → ResidueMessage 𝔽₂ d k m → ExactEncode 𝔽₂ d c k g₁ t₁ t₁' m a out
      → (outcome a ≡ done tt) × (out ≡ to_words 𝔽₂ (map (value F₂.ring (reversed F₂.ring d (elements 𝔽₂ m))) (powers F₂.ring ω (block_size c d))))
  filled_encodes {m} 𝓜 x =
      let w = encode_writes 𝔽₂ filled_row 𝓜 x in (
        w.0,
        w.1 ∙ ap (λ k. codeword_rows 𝔽₂ d k (base_size c k) g₁ t₁ t₁' m) filled_one
            ∙ filled_values d c k g t t' r g₁ t₁ t₁' 𝓒 e m (𝓜.sized ∙ ap (λ k. k * 2 ^ d) filled_one ∙ one-mul (2 ^ d)),
      )
