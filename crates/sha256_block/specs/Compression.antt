-- The next hash value from a hash value and a block of 64 bytes (FIPS 180-4, 6.2.2).
-- `State` holds eight words, a to h: the working variables, or a hash value H_0 to H_7. Assumes nothing.
use Rattle.std.specs.Prelude.{cond, List, ℕ, zero, suc, ◌*◌, ◌-◌, ltb, get_or}
use Rattle.sha256_words.specs.Words.{◌⊞◌, Ch, Maj, Σ0, Σ1, σ0, σ1, word_at}
use Rattle.sha256_block.specs.Constants.{K}
use Rattle.sha256_block.specs.declared.State.{State}

-- 5.2.1: M_t, word t of a block
abbrev pub M : List ℕ → ℕ → ℕ
M b t = word_at b (4 * t)

-- 6.2.2, step 1, THE MESSAGE SCHEDULE: W_t is M_t for t up to 15, and next W t from there on
unfoldable pub next : (ℕ → ℕ) → ℕ → ℕ
next W t = σ1 (W (t - 2)) ⊞ W (t - 7) ⊞ σ0 (W (t - 15)) ⊞ W (t - 16)

-- the recurrence to a depth of n, of which depth t is enough for W_t (`word_first` and `word_next` say it without the depth)
unfoldable pub within : List ℕ → ℕ → ℕ → ℕ
within b zero t = M b t
within b (suc n) t = cond (ltb t 16) (M b t) (next (within b n) t)

unfoldable pub W : List ℕ → ℕ → ℕ
W b t = within b t t

-- 6.2.2, step 3: a round with the constant k and the word w
unfoldable pub T₁ : State → ℕ → ℕ → ℕ
T₁ s k w = s.h ⊞ Σ1 s.e ⊞ Ch s.e s.f s.g ⊞ k ⊞ w

unfoldable pub T₂ : State → ℕ
T₂ s = Σ0 s.a ⊞ Maj s.a s.b s.c

unfoldable pub round : State → ℕ → ℕ → State
round s k w =
    record {
      a = T₁ s k w ⊞ T₂ s;
      b = s.a;
      c = s.b;
      d = s.c;
      e = s.d ⊞ T₁ s k w;
      f = s.e;
      g = s.f;
      h = s.g;
    }

-- 6.2.2, step 3: the first n rounds, from 0 on
unfoldable pub rounds : (ℕ → ℕ) → State → ℕ → State
rounds w s zero = s
rounds w s (suc t) = round (rounds w s t) (get_or K t 0) (w t)

-- 6.2.2, step 4: the working variables and the hash value, word by word
unfoldable pub added : State → State → State
added r s =
    record {
      a = r.a ⊞ s.a;
      b = r.b ⊞ s.b;
      c = r.c ⊞ s.c;
      d = r.d ⊞ s.d;
      e = r.e ⊞ s.e;
      f = r.f ⊞ s.f;
      g = r.g ⊞ s.g;
      h = r.h ⊞ s.h;
    }

-- 6.2.2, steps 1 to 4: THE NEXT HASH VALUE, after 64 rounds that begin with the hash value (step 2)
unfoldable pub compressed : State → List ℕ → State
compressed s b = added (rounds (W b) s 64) s
