-- Laws of the exclusive or that `lib.Bits` lacks: it is associative, and the same number twice cancels.
use mathlib.Core.Path.{◌≡◌, refl, sym, ap, ap₂, ◌∙◌}
use Prim.Native.Nat.{ℕ, zero, suc, ◌+◌, ◌*◌, ◌/◌, ◌%◌, ◌<◌}
use native.Mathlib.Omega.{arith}
use lib.Arith.{bin_ind}
use lib.Dec.{lit<}
use lib.Bits.{bit_xor, differ, xor_step, xor_shr, xor_self, xor_zero_r, xor_comm}

-- two digits differ in a digit
differ_lt : (x y : ℕ) → x < 2 → y < 2 → differ x y < 2
differ_lt zero y p q = q
differ_lt (suc zero) zero p q = p
differ_lt (suc zero) (suc zero) p q = lit< tt
differ_lt (suc zero) (suc (suc y)) p q = absurd (omega arith)
differ_lt (suc (suc x)) y p q = absurd (omega arith)

-- three digits may be grouped either way
differ_assoc : (x y z : ℕ) → x < 2 → y < 2 → z < 2 → differ (differ x y) z ≡ differ x (differ y z)
differ_assoc zero y z p q r = refl
differ_assoc (suc zero) zero z p q r = refl
differ_assoc (suc zero) (suc zero) zero p q r = refl
differ_assoc (suc zero) (suc zero) (suc zero) p q r = refl
differ_assoc (suc zero) (suc zero) (suc (suc z)) p q r = absurd (omega arith)
differ_assoc (suc zero) (suc (suc y)) z p q r = absurd (omega arith)
differ_assoc (suc (suc x)) y z p q r = absurd (omega arith)

-- the lowest digit
pub xor_odd : (a b : ℕ) → bit_xor a b % 2 ≡ differ (a % 2) (b % 2)
xor_odd a b = omega (arith, xor_step a b, differ_lt (a % 2) (b % 2) (omega arith) (omega arith))

-- the other digits
pub xor_half : (a b : ℕ) → bit_xor a b / 2 ≡ bit_xor (a / 2) (b / 2)
xor_half a b = xor_shr a b 1

-- three numbers may be grouped either way if their halves may
assoc_step : (a b c : ℕ) → bit_xor (bit_xor (a / 2) (b / 2)) (c / 2) ≡ bit_xor (a / 2) (bit_xor (b / 2) (c / 2))
    → bit_xor (bit_xor a b) c ≡ bit_xor a (bit_xor b c)
assoc_step a b c halves =
    xor_step (bit_xor a b) c
    ∙ ap₂ (λ (x y : ℕ). x * 2 + y)
    (rw (xor_half a b, xor_half b c) halves)
    (rw (xor_odd a b, xor_odd b c) (differ_assoc (a % 2) (b % 2) (c % 2) (omega arith) (omega arith) (omega arith)))
    ∙ sym (xor_step a (bit_xor b c))

-- three numbers may be grouped either way
pub xor_assoc : (a b c : ℕ) → bit_xor (bit_xor a b) c ≡ bit_xor a (bit_xor b c)
xor_assoc a =
    bin_ind (λ (n : ℕ). (b c : ℕ) → bit_xor (bit_xor n b) c ≡ bit_xor n (bit_xor b c)) (λ b c. refl)
    (λ n halves b c. assoc_step n b c (halves (b / 2) (c / 2))) a

-- a number twice is as nothing
pub xor_cancel : (v x : ℕ) → bit_xor (bit_xor v x) x ≡ v
xor_cancel v x = xor_assoc v x x ∙ ap (λ (y : ℕ). bit_xor v y) (xor_self x) ∙ xor_zero_r v

-- a number twice, the second time with its parts turned, is as nothing
pub xor_back : (v v' t : ℕ) → bit_xor (bit_xor t (bit_xor v v')) (bit_xor v' v) ≡ t
xor_back v v' t = rw (xor_comm v' v) (xor_cancel t (bit_xor v v'))

-- v' over x, v and v' leaves v and x
pub xor_turn : (v v' x : ℕ) → bit_xor v' (bit_xor x (bit_xor v v')) ≡ bit_xor v x
xor_turn v v' x =
    xor_comm v' (bit_xor x (bit_xor v v'))
    ∙ ap (λ (y : ℕ). bit_xor y v') (sym (xor_assoc x v v'))
    ∙ xor_cancel (bit_xor x v) v'
    ∙ xor_comm x v
