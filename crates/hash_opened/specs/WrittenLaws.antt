-- Where each query's bytes are in the buffer, and what stays as it was. Assumes nothing.
use Rattle.std.specs.Prelude.{◌≡◌, true, List, ◌++◌, ℕ, ◌+◌, ◌*◌, ◌<◌, ◌≤◌, get_or}
use Rattle.std.proofs.Common.{sym, ◌∙◌, add-zero, arith, take_at, take-take}
use Rattle.std.proofs.Math.Path.{ap}
use Rattle.std.proofs.Math.Nat.{zero-add}
use Rattle.std.proofs.Math.ListN.{length, take, drop}
use Rattle.hash_parts.specs.Queries.{put_each, Room}
use Rattle.hash_parts.specs.Parts.{Keeps, edit, edit_keeps, parts, put_parts, length_parts, parts_front, parts_at, parts_behind}
use Rattle.hash_opened.specs.Carried.{carried, written}
use Rattle.hash_opened.specs.CarriedLaws.{length_carried}

module _ (h : ℕ) (w us : List ℕ) (first stride : ℕ) (o : List ℕ) (room : Room (8 + 32 * h) first stride us o) where
  one : ℕ → List ℕ → List ℕ
  one = edit (λ u. true) (carried h w) 0

  fits : (u : ℕ) → 0 + length (carried h w u) ≤ stride
  fits u = let r = room.one in omega (arith, length_carried h w u)

  keeps : Keeps stride one
  unfolding one
  keeps = edit_keeps (λ u. true) (carried h w) 0 stride fits

  pub written_parts : written h w us first stride o ≡ parts (edit (λ u. true) (carried h w) 0) stride us first o
  written_parts = ap (λ k. put_each (λ u. true) (carried h w) stride us k o) (sym (add-zero first)) ∙ put_parts stride us first o room.all (λ u. true) (carried h w) 0 fits

  pub length_written : length (written h w us first stride o) ≡ length o
  unfolding one
  length_written = ap length written_parts ∙ length_parts stride us first o room.all one keeps

  -- before the first part and behind the last
  pub written_front : take first (written h w us first stride o) ≡ take first o
  unfolding one
  written_front = ap (take first) written_parts ∙ parts_front stride us first o room.all one

  pub written_behind : drop (first + stride * length us) (written h w us first stride o) ≡ drop (first + stride * length us) o
  unfolding one
  written_behind = ap (drop (first + stride * length us)) written_parts ∙ parts_behind stride us first o room.all one keeps

  -- PART k: what its query carries, and the rest of it as it was
  pub written_part : (k : ℕ) → k < length us
      → take stride (drop (first + stride * k) (written h w us first stride o)) ≡ carried h w (get_or us k 0) ++ drop (8 + 32 * h) (take stride (drop (first + stride * k) o))
  unfolding one
  written_part k l =
      let n : 0 + length (carried h w (get_or us k 0)) ≡ 8 + 32 * h = zero-add _ ∙ length_carried h w (get_or us k 0) in
      ap (λ q. take stride (drop (first + stride * k) q)) written_parts
      ∙ parts_at stride us first o room.all one keeps k l
      ∙ ap (λ i. carried h w (get_or us k 0) ++ drop i (take stride (drop (first + stride * k) o))) n

  pub written_at : (k : ℕ) → k < length us → take (8 + 32 * h) (drop (first + stride * k) (written h w us first stride o)) ≡ carried h w (get_or us k 0)
  written_at k l =
      sym (take-take (8 + 32 * h) stride (drop (first + stride * k) (written h w us first stride o)) room.one)
      ∙ ap (take (8 + 32 * h)) (written_part k l)
      ∙ take_at (carried h w (get_or us k 0)) _ (8 + 32 * h) (length_carried h w (get_or us k 0))
