-- A bit that is added to a word which lacks it: it is set then, every other bit is as it was, and the word needs no more bits than before.
use Prim.Native.Nat.{ℕ, zero, suc, ◌+◌, ◌*◌, ◌/◌, ◌%◌, ◌^◌, ◌<◌}
use mathlib.Core.Path.{◌≡◌, refl, sym, ap, ◌∙◌}
use native.Mathlib.Omega.{arith}
use native.Mathlib.Nat.{pow-succ', div-div-eq-div-mul, add-div_right, one-mul}
use lib.Dec.{lit<}
use lib.Pow.{pow_pos, shl_exact}

-- a bit but the lowest is one of the half
half_bit : (w k : ℕ) → w / 2 ^ suc k % 2 ≡ w / 2 / 2 ^ k % 2
half_bit w k = ap (λ (d : ℕ). w / d % 2) (pow-succ' 2 k) ∙ ap (λ (q : ℕ). q % 2) (sym (div-div-eq-div-mul w 2 (2 ^ k)))

-- the bit itself
pub bit_added : (b w : ℕ) → w / 2 ^ b % 2 ≡ 0 → (w + 2 ^ b) / 2 ^ b % 2 ≡ 1
bit_added b w h = let e : (w + 2 ^ b) / 2 ^ b ≡ w / 2 ^ b + 1 = add-div_right w (pow_pos b) in omega arith

-- another one
pub bit_kept : (b k w : ℕ) → (k ≡ b → ⊥) → w / 2 ^ b % 2 ≡ 0 → (w + 2 ^ b) / 2 ^ k % 2 ≡ w / 2 ^ k % 2
bit_kept zero zero w n h = absurd (n refl)
bit_kept zero (suc k) w n h =
    let e : (w + 2 ^ 0) / 2 ≡ w / 2 = omega arith in
    half_bit (w + 2 ^ 0) k ∙ ap (λ (v : ℕ). v / 2 ^ k % 2) e ∙ sym (half_bit w k)
bit_kept (suc b) zero w n h = omega arith
bit_kept (suc b) (suc k) w n h =
    let e : (w + 2 ^ suc b) / 2 ≡ w / 2 + 2 ^ b = omega arith in
    half_bit (w + 2 ^ suc b) k
    ∙ ap (λ (v : ℕ). v / 2 ^ k % 2) e
    ∙ bit_kept b k (w / 2) (λ q. n (ap suc q)) (sym (half_bit w b) ∙ h)
    ∙ sym (half_bit w k)

-- the width
pub bit_fits : (n b w : ℕ) → b < n → w < 2 ^ n → w / 2 ^ b % 2 ≡ 0 → w + 2 ^ b < 2 ^ n
bit_fits zero b w l m h = absurd (omega arith)
bit_fits (suc n) zero w l m h = omega arith
bit_fits (suc n) (suc b) w l m h =
    let f : w / 2 + 2 ^ b < 2 ^ n = bit_fits n b (w / 2) (omega arith) (omega arith) (sym (half_bit w b) ∙ h) in
    omega arith

-- a bit as code makes it, by a shift within 64 bits
pub bit_alone : (b : ℕ) → b < 64 → (1 * 2 ^ b) % 2 ^ 64 ≡ 2 ^ b
bit_alone b h = shl_exact 1 b 64 (lit< tt) (omega arith) ∙ one-mul (2 ^ b)
