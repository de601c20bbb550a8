-- The path that is carried leads to the root. Assumes nothing.
use Rattle.std.specs.Prelude.{◌≡◌, ℕ, zero, suc, ◌+◌, ◌*◌, ◌/◌, ◌^◌, ◌<◌, length, take, drop}
use Rattle.std.proofs.Common.{ap, ◌∙◌, arith, take_at}
use mathlib.Core.List.{List, ◌++◌, flat_map}
use Rattle.std.proofs.Math.Seq.{drop-append-add}
use Rattle.algebra.specs.Lists.{row, row_ext}
use Rattle.merkle.specs.Tree.{sibling, node, climb}
use Rattle.hash_tree.specs.Tree.{node_hash}
use Rattle.hash_path.specs.Climbing.{pieces, climbed}
use Rattle.hash_root.specs.Levels.{leaf_of, level_root}
use Rattle.hash_root.specs.LevelLaws.{path_leads}
use Rattle.hash_opened.specs.Carried.{path_bytes}
use Rattle.hash_opened.specs.CarriedLaws.{length_node, length_path}

-- piece k of lists of 32 bytes that are joined
piece : (h : ℕ) (f : ℕ → List ℕ) → ((i : ℕ) → length (f i) ≡ 32) → (k : ℕ) → k < h → take 32 (drop (32 * k) (flat_map (λ x. x) (row h f))) ≡ f k
unfolding flat_map row
piece zero f n k l = absurd (omega arith)
piece (suc h) f n zero l = take_at (f 0) (flat_map (λ x. x) (row h (λ i. f (suc i)))) 32 (n 0)
piece (suc h) f n (suc k) l =
    let e : 32 * suc k ≡ length (f 0) + 32 * k = omega (arith, n 0) in
    let r = flat_map (λ x. x) (row h (λ i. f (suc i))) in
    ap (λ i. take 32 (drop i (f 0 ++ r))) e ∙ ap (take 32) (drop-append-add (f 0) r (32 * k)) ∙ piece h (λ i. f (suc i)) (λ i. n (suc i)) k (omega arith)

pub carried_leads : (h : ℕ) (w : List ℕ) (j : ℕ) → j < 2 ^ h → climbed j (leaf_of w j) (path_bytes w h j) ≡ level_root h w
unfolding climbed path_bytes
carried_leads h w j l =
    let n : length (path_bytes w h j) / 32 ≡ h = omega (arith, length_path w h j) in
    ap (λ k. climb node_hash j (leaf_of w j) (pieces k (path_bytes w h j))) n
    ∙ ap (climb node_hash j (leaf_of w j)) (row_ext h _ _ (piece h (λ k. node node_hash (leaf_of w) k (sibling (j / 2 ^ k))) (λ k. length_node w k (sibling (j / 2 ^ k)))))
    ∙ path_leads h j w l
