-- Laws of meanings: free is above zero, contact is zero, an overlap is below it, and no clearance's amount is lost. Assumes nothing.
use Rattle.std.specs.Prelude.{◌≡◌, refl, ℕ, zero, suc, ◌<◌, ℤ, pos, negsuc, neg_ℤ}
use Rattle.std.proofs.Common.{ap, arith}
use Rattle.clearance.specs.Clearances.{Meaning, free, contact, overlap, meaning}

-- the number that a meaning carries
abbrev amount : Meaning → ℕ
amount (free n) = n
amount contact = 0
amount (overlap n) = n

pub free_only : (x : ℤ) (n : ℕ) → meaning x ≡ free n → (x ≡ pos n) × (0 < n)
free_only (pos zero) n e = absurd (let z : ◌≡◌ {A = ℕ} 0 1 = cc in omega arith)
free_only (pos (suc k)) n e = (ap pos (ap amount e), omega (arith, ap amount e))
free_only (negsuc k) n e = absurd (let z : ◌≡◌ {A = ℕ} 0 1 = cc in omega arith)

pub contact_only : (x : ℤ) → meaning x ≡ contact → x ≡ pos 0
contact_only (pos zero) e = refl
contact_only (pos (suc k)) e = cc
contact_only (negsuc k) e = cc

pub overlap_only : (x : ℤ) (n : ℕ) → meaning x ≡ overlap n → (x ≡ neg_ℤ (pos n)) × (0 < n)
overlap_only (pos zero) n e = absurd (let z : ◌≡◌ {A = ℕ} 0 1 = cc in omega arith)
overlap_only (pos (suc k)) n e = absurd (let z : ◌≡◌ {A = ℕ} 0 1 = cc in omega arith)
overlap_only (negsuc k) n e = (ap (λ m. neg_ℤ (pos m)) (ap amount e), omega (arith, ap amount e))
