-- A block is thick if it reaches further than where it begins, each way.
--     Reaches, way_thick, thick_way                 thick along a way, and the test, which says that of each
--     cut_fits                                      what is left in the workshop is in range
--     squeezed                                      a place between two planes across a way
--     ShortOf, below_inside, off_inside             a place that is less far than the block reaches
use Rattle.std.proofs.Common.{◌≡◌, ◌<◌, true, false, ℤ, pos, ◌*ℤ◌, neg_ℤ, ◌≤ℤ◌, ◌<ℤ◌, sym, ap, ◌∙◌, arith}
use lib.Signed.{lt_z}
use Rattle.std.proofs.lemmas.Int.{ints, clamps}
use Rattle.std.proofs.lemmas.Bool.{and_parts, and_from}
use Rattle.arith.proofs.Order.{mul_le}
use Rattle.arith.proofs.Ring.{neg_*l}
use Rattle.plane.specs.declared.types.Place.{Place}
use Rattle.plane.specs.Planes.{same_z, below, on}
use Rattle.faces.specs.declared.types.Span.{Span}
use Rattle.faces.specs.declared.types.Bounds.{Bounds}
use Rattle.faces.specs.Blocks.{cut_span, cut, thick, FitsSpan, FitsBlock}
use Rattle.faces.proofs.Ways.{Way, east, west, north, south, up, down, opp, first, second, toward, far, top, bot, bot-top, far-opp}
use Rattle.faces.proofs.Sides.{below-far, on-far}
use Rattle.plane.proofs.Tests.{lt_yes, lt_says}
use Rattle.faces.proofs.Integers.{lt_scaled}

flip : (m n : ℤ) → neg_ℤ n <ℤ neg_ℤ m → m <ℤ n
flip m n h = omega (arith, ints)

turn : (m n : ℤ) → m <ℤ n → neg_ℤ n <ℤ neg_ℤ m
turn m n h = omega (arith, ints)

-- it is thick along a way
abbrev pub Reaches : Bounds → Way → Type 0
Reaches b e = bot b e <ℤ top b e

module _ (b : Bounds) where
  full : b.x.low <ℤ b.x.high → b.y.low <ℤ b.y.high → b.z.low <ℤ b.z.high → thick b ≡ true
  unfolding thick
  full x y z = and_from (lt_z b.x.low b.x.high) _ (lt_yes _ _ x) (and_from (lt_z b.y.low b.y.high) _ (lt_yes _ _ y) (lt_yes _ _ z))

  pub way_thick : (e : Way) → Reaches b e → Reaches b (first e) → Reaches b (second e) → thick b ≡ true
  way_thick east i j k = full i j k
  way_thick west i j k = full (flip _ _ i) k j
  way_thick north i j k = full k i j
  way_thick south i j k = full j (flip _ _ i) k
  way_thick up i j k = full j k i
  way_thick down i j k = full k j (flip _ _ i)

  pub thick_way : FitsBlock b → (e : Way) → Reaches b e
  thick_way f east = f.x.thick
  thick_way f west = turn _ _ f.x.thick
  thick_way f north = f.y.thick
  thick_way f south = turn _ _ f.y.thick
  thick_way f up = f.z.thick
  thick_way f down = turn _ _ f.z.thick

span_fits : (s : Span) → lt_z (cut_span s).low (cut_span s).high ≡ true → FitsSpan (cut_span s)
span_fits s h = record { low = omega (arith, ints, clamps); thick = lt_says (cut_span s).low (cut_span s).high h; high = omega (arith, ints, clamps) }

pub cut_fits : (b : Bounds) → thick (cut b) ≡ true → FitsBlock (cut b)
unfolding thick cut
cut_fits b h =
    let k = and_parts _ _ h in
    let l = and_parts _ _ k.1 in
    record { x = span_fits b.x k.0; y = span_fits b.y l.0; z = span_fits b.z l.1 }

-- ---- places
between : (u v f g h : ℤ) → u ≡ neg_ℤ h → g ≡ neg_ℤ f → f <ℤ v → g <ℤ h → u <ℤ v
between u v f g h a b k l = omega (arith, ints)

pub squeezed : (b : Bounds) (q : Place) → 0 < q.w → (e : Way) → below (toward e (top b e)) q ≡ true → below (toward (opp e) (top b (opp e))) q ≡ true → Reaches b e
squeezed b q real e h k =
    let w = pos q.w in
    let i = lt_says (far e q) (top b e *ℤ w) (sym (below-far e (top b e) q) ∙ h) in
    let j = lt_says (far (opp e) q) (top b (opp e) *ℤ w) (sym (below-far (opp e) (top b (opp e)) q) ∙ k) in
    let c = ap (λ (n : ℤ). n *ℤ w) (bot-top b e) ∙ neg_*l (top b (opp e)) w in
    let l = between (bot b e *ℤ w) (top b e *ℤ w) (far e q) (far (opp e) q) (top b (opp e) *ℤ w) c (far-opp e q) i j in
    lt_says (bot b e) (top b e) (sym (lt_scaled q.w real (bot b e) (top b e)) ∙ lt_yes _ _ l)

-- less far a way than n
abbrev pub ShortOf : ℤ → Way → Place → Type 0
ShortOf n e q = far e q <ℤ (n *ℤ pos q.w)

apart : (a b c : ℤ) → a <ℤ b → b ≤ℤ c → same_z a c ≡ false
unfolding same_z
apart a b c h k = grind (arith, ints)

module _ (n : ℤ) (e : Way) (q : Place) (less : ShortOf n e q) where
  pub below_inside : below (toward e n) q ≡ true
  below_inside = below-far e n q ∙ lt_yes _ _ less

  pub off_inside : (d : ℤ) → n ≤ℤ d → on (toward e d) q ≡ false
  off_inside d h = on-far e d q ∙ apart (far e q) (n *ℤ pos q.w) (d *ℤ pos q.w) less (mul_le n d (pos q.w) h (omega (arith, ints)))
