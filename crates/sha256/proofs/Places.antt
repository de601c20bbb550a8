-- Bytes stored in a buffer. Assumes nothing.
use mathlib.Core.Path.{◌≡◌, refl, sym, ap, ap₂, ◌∙◌}
use mathlib.Core.List.{List, [], ◌∷◌, ◌++◌, flat_map, append-nil}
use Prim.Native.Nat.{ℕ, suc, ◌+◌, ◌*◌, ◌-◌, ◌%◌, ◌^◌, ◌<◌}
use Rattle.std.specs.Int.{w64, to_be_bytes}
use native.Mathlib.Numerals.{add-one}
use native.Mathlib.Omega.{arith}
use lib.ListN.{length, get_or, take, drop, set, replicate, length-replicate, replicate-append-replicate, drop_of_length-le}
use lib.Seq.{take-suc, take_all, take_at, drop_at, set_at, drop-append-add, drop-drop, length-take-le}
use Rattle.algebra.specs.Lists.{flat_map_append, length_flat_map}
use Rattle.sha256.specs.Padding.{bytes, all_bytes, length_words}

length_bytes : (x : ℕ) → length (bytes x) ≡ 4
unfolding bytes
length_bytes x = refl

pub length_all : (l : List ℕ) → length (all_bytes l) ≡ 4 * length l
unfolding all_bytes
length_all l = length_flat_map bytes 4 length_bytes l ∙ omega arith

-- all bytes of words, one word more
all_snoc : (l : List ℕ) (x : ℕ) → all_bytes (l ++ (x ∷ [])) ≡ all_bytes l ++ bytes x
unfolding all_bytes flat_map
all_snoc l x = flat_map_append bytes l (x ∷ []) ∙ ap (λ r. flat_map bytes l ++ r) (append-nil (bytes x))

-- a word stored behind what is written already
word_behind : (a o : List ℕ) (k x : ℕ) {out out' : List ℕ} → length a ≡ k → out ≡ a ++ drop k o → out' ≡ take k out ++ bytes x ++ drop (k + 4) out
    → out' ≡ a ++ bytes x ++ drop (k + 4) o
word_behind a o k x long p q =
    let four : k + 4 ≡ length a + 4 = omega arith in
    q
    ∙ ap₂ (λ u v. u ++ bytes x ++ v) (ap (take k) p ∙ take_at a (drop k o) k long) (ap₂ drop four p ∙ drop-append-add a (drop k o) 4 ∙ drop-drop 4 k o)

-- words from the front on, one word more
pub front_turn : (w o : List ℕ) (i : ℕ) {out out' : List ℕ} → i < length w → out ≡ all_bytes (take i w) ++ drop (4 * i) o
    → out' ≡ take (4 * i) out ++ bytes (get_or w i 0) ++ drop (4 * i + 4) out → out' ≡ all_bytes (take (i + 1) w) ++ drop (4 * (i + 1)) o
front_turn w o i h p q =
    let a = all_bytes (take i w) in
    let long : length a ≡ 4 * i = length_all (take i w) ∙ ap (λ n. 4 * n) (length-take-le i w (omega arith)) in
    let next : 4 * i + 4 ≡ 4 * (i + 1) = omega arith in
    let words : a ++ bytes (get_or w i 0) ≡ all_bytes (take (i + 1) w) =
    sym (all_snoc (take i w) (get_or w i 0)) ∙ ap all_bytes (sym (take-suc w i 0 h) ∙ ap (λ k. take k w) (sym (add-one i))) in
    word_behind a o (4 * i) (get_or w i 0) long p q ∙ ap₂ (λ u k. u ++ drop k o) words next

pub front_end : (w o : List ℕ) (i : ℕ) {out : List ℕ} → length w ≡ i → length o ≡ 4 * i → out ≡ all_bytes (take i w) ++ drop (4 * i) o → out ≡ all_bytes w
front_end w o i d e p = p ∙ ap₂ (λ x y. all_bytes x ++ y) (take_all i w (omega arith)) (drop_of_length-le o {i = 4 * i} (omega arith)) ∙ append-nil (all_bytes w)

-- the bytes of a length in bits, its low 64 bits
pub eight_bytes : (n : ℕ) {l : List ℕ} → l ≡ to_be_bytes w64 (n * 8 % 2 ^ 64) → l ≡ all_bytes (length_words (8 * n))
unfolding bytes all_bytes flat_map
eight_bytes n e =
    e
    ∙ ap₂ ◌∷◌ (omega arith) (ap₂ ◌∷◌ (omega arith) (ap₂ ◌∷◌ (omega arith) (ap₂ ◌∷◌ (omega arith)
    (ap₂ ◌∷◌ (omega arith) (ap₂ ◌∷◌ (omega arith) (ap₂ ◌∷◌ (omega arith) (ap₂ ◌∷◌ (omega arith) refl)))))))

-- a list copied to the front of zeros, and a byte behind it
pub byte_behind : (s : List ℕ) (v : ℕ) {l : List ℕ} → length s < 128 → l ≡ s
    → set (l ++ drop (length s) (replicate 128 0)) (length s) v ≡ s ++ (v ∷ replicate (127 - length s) 0)
byte_behind s v h p =
    let n = length s in
    let zs : List ℕ = replicate (127 - n) 0 in
    let parts : 128 ≡ n + suc (127 - n) = omega arith in
    let rest : drop n (replicate 128 0) ≡ 0 ∷ zs =
    ap (λ k. drop n (replicate k 0)) parts ∙ ap (drop n) (sym (replicate-append-replicate n (suc (127 - n)) 0))
    ∙ drop_at (replicate n 0) (0 ∷ zs) n (length-replicate n 0) in
    ap (λ l. set l n v) (ap₂ ◌++◌ p rest) ∙ set_at s 0 zs v n refl
