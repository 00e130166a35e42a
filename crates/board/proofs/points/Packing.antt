-- A point and its two numbers.
use Prim.Native.Nat.{ℕ, ◌+◌, ◌*◌, ◌/◌, ◌%◌, ◌≤◌, ◌<◌}
use native.Mathlib.Omega.{arith}
use mathlib.Core.Path.{◌≡◌}
use Rattle.board.specs.declared.points.Point.{Point}
use Rattle.board.specs.Points.{stride, wait_unit, command_unit, target_unit, key_of, info_of, event_of, wait_of, command_of, target_of, point_of}

-- a point comes back from its two numbers
pub point-back : (p : Point) → p.position.0 ≤ 2000000 → p.event < wait_unit → p.wait ≤ 1 → p.command ≤ 4 → point_of (key_of p) (info_of p) ≡ p
unfolding point_of key_of info_of
point-back p hp he hw hc =
    let k = p.track * stride + p.position.0 in
    let d = p.event + wait_unit * p.wait + command_unit * p.command + target_unit * p.target in
    let e1 : k % stride ≡ p.position.0 = omega arith in
    let e2 : k / stride ≡ p.track = omega arith in
    let e3 : event_of d ≡ p.event = omega arith in
    let q4 : d / wait_unit ≡ p.wait + 2 * (p.command + 8 * p.target) = omega arith in
    let e4 : wait_of d ≡ p.wait = rw q4 (omega arith) in
    let q5 : d / command_unit ≡ p.command + 8 * p.target = omega arith in
    let e5 : command_of d ≡ p.command = rw q5 (omega arith) in
    let e6 : target_of d ≡ p.target = omega arith in
    rw (e1, e2, e3, e4, e5, e6)

-- a key comes back from the point
pub key_back : (k d : ℕ) → key_of (point_of k d) ≡ k
unfolding point_of key_of
key_back k d = omega arith

-- an info comes back from the point
pub info-back : (k d : ℕ) → info_of (point_of k d) ≡ d
unfolding point_of info_of
info-back k d =
    let q = d / wait_unit in
    let q2 : d / command_unit ≡ q / 2 = omega arith in
    let q16 : d / target_unit ≡ q / 2 / 8 = omega arith in
    let e : d ≡ wait_unit * q + d % wait_unit = omega arith in
    rw (q2, q16) (omega arith)

-- an info is never 0
pub info-positive : (p : Point) → 1 ≤ p.event → 0 < info_of p
unfolding info_of
info-positive p h = omega arith
