-- Decoding on columns that hold as many words as the message: every block is a codeword there, that of what it decodes to. Assumes nothing.
use Rattle.std.specs.Prelude.{◌≡◌}
use Rattle.std.proofs.Common.{sym, ◌∙◌}
use Rattle.std.proofs.Math.Path.{ap₂}
use mathlib.Core.List.{List, ◌++◌}
use Prim.Native.Nat.{ℕ, zero, suc, ◌^◌}
use Rattle.std.proofs.Math.ListN.{length}
use Rattle.algebra.specs.Field.{Field}
use Rattle.algebra.specs.Vector.{vectors}
use Rattle.foldable.specs.Code.{Code, size, dim, slope, line, encode, Legal}
use Rattle.foldable.specs.Encode.{block_halves, below, length_encode, encode_halves}
use Rattle.foldable.specs.Level.{lines, slopes, length_level, lines_first, lines_second}
use Rattle.foldable.specs.Fold.{level_block}
use Rattle.foldable.specs.Columns.{length_pick, column, restrict, legal_restrict, column_encode}
use Rattle.foldable.specs.Decode.{undo, length_undo, decode, length_decode, Decoder}
use Rattle.foldable.specs.Every.{every_pick}
use Rattle.foldable.specs.OneColumn.{one_column}

module _ (F : Field) where
  infixl 66 ◌⊕◌
  infixl 70 ◌⊙◌
  open F use {ring as K, inv, mul_inv}
  open K use {R, ◌*◌, 𝟘}
  open vectors K use {◌⊕◌, ◌⊙◌}

  -- undoing is undone by encoding, if that is so at level 0
  module _ (C : Code F) (base : List R → List R) (sized : (w : List R) → length w ≡ size F C 0 → length (base w) ≡ dim F C 0)
      (back : (w : List R) → length w ≡ size F C 0 → encode F C 0 (base w) ≡ w) where
    open C use {T, T'}

    pub encode_undo : (i : ℕ) → Legal F C i → (w : List R) → length w ≡ size F C i → encode F C i (undo F C base i w) ≡ w
    unfolding undo
    encode_undo zero 𝓛 w e = back w e
    encode_undo (suc i) 𝓛 w e =
        let h = block_halves F C i w e in
        let k = level_block F C i 𝓛 w e in
        let L = lines F 𝟘 (T i) (T' i) h.left h.right in
        let S = slopes F (T i) (T' i) h.left h.right in
        let ll : length L ≡ size F C i = length_level F (line F 𝟘) k ∙ h.length_left in
        let ls : length S ≡ size F C i = length_level F (slope F) k ∙ h.length_left in
        encode_halves F C i 𝓛 (undo F C base i L) (undo F C base i S) (length_undo F C base sized i (below F C i 𝓛) L ll)
        ∙ ap₂ (λ u v. (u ⊕ T i ⊙ v) ++ (u ⊕ T' i ⊙ v)) (encode_undo i (below F C i 𝓛) L ll) (encode_undo i (below F C i 𝓛) S ls)
        ∙ ap₂ ◌++◌ (lines_first F k) (lines_second F k)
        ∙ h.whole

  -- on the columns that it was decoded on, a block is the codeword of what it decodes to
  module _ (C : Code F) (k : ℕ) (base : List R → List R) (𝓓 : Decoder F C k base)
      (back : (w : List R) → length w ≡ size F (restrict F C k) 0 → encode F (restrict F C k) 0 (base w) ≡ w) where
    pub decode_column : (d : ℕ) → Legal F C d → (w : List R) → length w ≡ size F C d → column F C k d (encode F C d (decode F C k base d w)) ≡ column F C k d w
    unfolding decode
    decode_column d 𝓛 w e =
        column_encode F C k 𝓓.few d 𝓛 (decode F C k base d w) (length_decode F C k base 𝓓 d 𝓛 w e)
        ∙ encode_undo (restrict F C k) base 𝓓.length_base back d (legal_restrict F C k 𝓓.few d 𝓛) (column F C k d w) (length_pick C.n₀ k _ w 𝓓.few e)

  -- with one column, at the places 0, c, 2 c, ...
  module _ (C : Code F) (base : List R → List R) (𝓓 : Decoder F C 1 base)
      (back : (w : List R) → length w ≡ size F (restrict F C 1) 0 → encode F (restrict F C 1) 0 (base w) ≡ w) where
    pub decode_first : (d : ℕ) → Legal F C d → (w : List R) → length w ≡ size F C d → one_column F C 0 d (encode F C d (decode F C 1 base d w)) ≡ one_column F C 0 d w
    decode_first d 𝓛 w e =
        sym (every_pick 𝟘 C.n₀ (2 ^ d) (encode F C d (decode F C 1 base d w)) 𝓓.few (length_encode F C d 𝓛 _))
        ∙ decode_column C 1 base 𝓓 back d 𝓛 w e
        ∙ every_pick 𝟘 C.n₀ (2 ^ d) w 𝓓.few e
