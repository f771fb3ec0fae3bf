-- The ends of parts: within the deadline, and at least a part's length apart.
use Rattle.std.proofs.Common.{◌≡◌, ℕ, ◌+◌, ◌*◌, ◌/◌, ◌≤◌, ap, ◌∙◌, mul_comm, add-mul, mul-le-mul_left, mul-zero, le-div_iff_mul-le, mul-add, div-mul-le_self, mul-div_cancel, arith}
use native.Mathlib.Nat.{div-le_of_le-mul, zero-div}
use Rattle.chain.specs.Windows.{end}

pub end-within : (deadline sum upto : ℕ) → upto ≤ sum → end deadline sum upto ≤ deadline
end-within d s u h = div-le_of_le-mul s (omega (arith, mul-le-mul_left d h, mul_comm d s))

pub end-at_start : (deadline sum : ℕ) → end deadline sum 0 ≡ 0
end-at_start d s = ap (λ n. n / s) (mul-zero d) ∙ zero-div s

pub end-at_last : (deadline sum : ℕ) → 1 ≤ sum → end deadline sum sum ≡ deadline
end-at_last d s some = mul-div_cancel d some

-- more work ends no earlier
pub end-rises : (deadline sum before after : ℕ) → 1 ≤ sum → before ≤ after → end deadline sum before ≤ end deadline sum after
end-rises d s b a some on = (le-div_iff_mul-le some).1 (omega (arith, div-mul-le_self (d * b) s, mul-le-mul_left d on))

-- where the work fits the deadline, a part's window holds the part
pub ends_apart : (deadline sum before length : ℕ) → 1 ≤ sum → sum ≤ deadline → end deadline sum before + length ≤ end deadline sum (before + length)
ends_apart d s b c some fits =
    (le-div_iff_mul-le some).1 (omega (arith, add-mul (d * b / s) c s, div-mul-le_self (d * b) s, mul-le-mul_left c fits, mul_comm c d, mul-add d b c))
