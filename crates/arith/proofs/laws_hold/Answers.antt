use Rattle.std.proofs.Common.{refl}
use Rattle.arith.proofs.Ring.{*ℤ_assoc, distr, neg_*l}
use Rattle.arith.proofs.Order.{mul_positive, mul_neg_neg, mul_neg_pos, mul_le, cancel_le, cancel_zero}
use Rattle.arith.proofs.laws_hold.Goals as goal

pub returns : goal.returns
returns c = record {
  told = refl;
  laws = record {
    associative = *ℤ_assoc;
    distributive = distr;
    negative = neg_*l;
    product_positive = mul_positive;
    product_of_negatives = mul_neg_neg;
    product_of_unlike = mul_neg_pos;
    scaled = mul_le;
    cancelled = cancel_le;
    no_zero_divisor = cancel_zero;
  };
}
