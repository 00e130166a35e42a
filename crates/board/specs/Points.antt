-- The points of a board (01, "Points"), kept as two rows of numbers in ascending order of their keys.
use Rattle.std.specs.Prelude.{ℕ, suc, ◌+◌, ◌-◌, ◌*◌, ◌/◌, ◌%◌, ◌≤◌, ◌<◌, ◌≡◌, List, [], ◌∷◌, ◌++◌, Bool, true, false, cond, ◌&&◌, ◌||◌, length, take, drop, set, replicate, leb, ltb, eqb, Option, Some, None}
use Rattle.track.specs.declared.Coordinate.{Coordinate}
use Rattle.track.specs.Rule.{event_most}
use Rattle.board.specs.declared.points.Points.{Points}
use Rattle.board.specs.declared.points.Point.{Point}

-- at most 256 on a board
abbrev pub point_most : ℕ
point_most = 256

-- tracks 0 to 15
abbrev pub track_count : ℕ
track_count = 16

-- The key of a track and a coordinate: ascending keys are ascending by track and position.
abbrev pub stride : ℕ
stride = 2097152

abbrev pub key : ℕ → ℕ → ℕ
key track l = track * stride + l

-- past the keys of track 15
abbrev pub key_end : ℕ
key_end = stride * track_count

unfoldable pub key_of : Point → ℕ
key_of p = key p.track p.position.0

-- What else a point has is one number, its info: event + wait_unit × wait + command_unit × command + target_unit × target. An
-- info is never 0, so that 0 says that there is no point.
abbrev pub wait_unit : ℕ
wait_unit = 65536

abbrev pub command_unit : ℕ
command_unit = 131072

abbrev pub target_unit : ℕ
target_unit = 1048576

-- past the infos with target 15
abbrev pub info_end : ℕ
info_end = target_unit * track_count

unfoldable pub info_of : Point → ℕ
info_of p = p.event + wait_unit * p.wait + command_unit * p.command + target_unit * p.target

-- ---- what an info says

abbrev pub event_of : ℕ → ℕ
event_of d = d % wait_unit

abbrev pub wait_of : ℕ → ℕ
wait_of d = d / wait_unit % 2

abbrev pub command_of : ℕ → ℕ
command_of d = d / command_unit % 8

abbrev pub target_of : ℕ → ℕ
target_of d = d / target_unit

-- the wait flag is 1
unfoldable pub waits : ℕ → Bool
waits d = eqb (wait_of d) 1

-- an info whose event, command and target are in their ranges; 0, which is no point, is one
pub record InfoRule (d : ℕ) : Type 0 where
  pub event : event_of d ≤ event_most
  pub command : command_of d ≤ 4
  pub target : target_of d < track_count

-- the point of a key and an info
unfoldable pub point_of : ℕ → ℕ → Point
point_of k d =
    record {
      track = k / stride;
      position = record { 0 = k % stride };
      event = event_of d;
      wait = wait_of d;
      command = command_of d;
      target = target_of d;
    }

-- ---- rows

-- at most one for a track and position: strictly ascending, every key at least lo
unfoldable pub ascending_from : ℕ → List ℕ → Bool
ascending_from lo [] = true
ascending_from lo (x ∷ xs) = leb lo x && ascending_from (suc x) xs

unfoldable pub has_key : ℕ → List ℕ → Bool
has_key k [] = false
has_key k (x ∷ xs) = eqb x k || has_key k xs

-- the index of the first key that is at least k, or the number of keys where there is none
unfoldable pub first_from : List ℕ → ℕ → ℕ
first_from [] k = 0
first_from (x ∷ xs) k = cond (ltb x k) (suc (first_from xs k)) 0

-- v between the first i elements and the others; the elements but the one at i
unfoldable pub insert_at : {A : Type 0} → ℕ → A → List A → List A
insert_at i v xs = take i xs ++ v ∷ drop i xs

unfoldable pub remove_at : {A : Type 0} → ℕ → List A → List A
remove_at i xs = take i xs ++ drop (suc i) xs

-- the same in a row of which the first n elements count: what stands further on stays
unfoldable pub insert_row : ℕ → ℕ → ℕ → List ℕ → List ℕ
insert_row n i v xs = insert_at i v (take n xs) ++ drop (suc n) xs

unfoldable pub remove_row : ℕ → ℕ → List ℕ → List ℕ
remove_row n i xs = remove_at i (take n xs) ++ drop (n - 1) xs

-- the keys and the infos of the points held, ascending by key: what stands past the count is no part of them
abbrev pub keys_of : Points → List ℕ
keys_of t = take t.count t.keys

abbrev pub infos_of : Points → List ℕ
infos_of t = take t.count t.infos

-- no point
unfoldable pub no_points : Points
no_points = record { keys = replicate point_most 0; infos = replicate point_most 0; count = 0 }

-- the info beside the key k, 0 where there is none
unfoldable pub info_at : ℕ → List ℕ → List ℕ → ℕ
info_at k [] ds = 0
info_at k (x ∷ xs) [] = 0
info_at k (x ∷ xs) (d ∷ ds) = cond (eqb x k) d (info_at k xs ds)

-- ---- a point set or dropped

-- the table with another info at the key k, or with a point more, in its place
unfoldable pub replaced : Points → ℕ → ℕ → Points
replaced t k d = record { keys = t.keys; infos = set t.infos (first_from (keys_of t) k) d; count = t.count }

unfoldable pub added : Points → ℕ → ℕ → Points
added t k d =
    let i = first_from (keys_of t) k in
    record { keys = insert_row t.count i k t.keys; infos = insert_row t.count i d t.infos; count = t.count + 1 }

-- whether a change is made, and the points after it
pub record Stored : Type 0 where
  pub done : Bool
  pub points : Points

-- the same of what the code gives: the points after it, or none, and they stay
abbrev pub stored_as : Points → Option Points → Stored
stored_as t (Some u) = record { done = true; points = u }
stored_as t None = record { done = false; points = t }

-- A 257th point finds no room; replacing one is no new point.
unfoldable pub stored_in : Points → ℕ → ℕ → Stored
stored_in t k d =
    cond (has_key k (keys_of t)) (record { done = true; points = replaced t k d })
    (cond (ltb t.count point_most) (record { done = true; points = added t k d }) (record { done = false; points = t }))

-- the point at the key k is dropped, if there is one
unfoldable pub dropped_from : Points → ℕ → Stored
dropped_from t k =
    let i = first_from (keys_of t) k in
    cond (has_key k (keys_of t))
    (record {
      done = true;
      points = record { keys = remove_row t.count i t.keys; infos = remove_row t.count i t.infos; count = t.count - 1 };
    })
    (record { done = false; points = t })

-- ---- counting, and the nearest point

-- how many keys a test accepts
unfoldable pub count_of : (ℕ → Bool) → List ℕ → ℕ
count_of p [] = 0
count_of p (x ∷ xs) = cond (p x) (suc (count_of p xs)) (count_of p xs)

-- the keys from `from` on and below `past`
unfoldable pub between : ℕ → ℕ → ℕ → Bool
between from past x = leb from x && ltb x past

-- the first and the last key that a test accepts, as a coordinate of the track
unfoldable pub find_first : (ℕ → Bool) → ℕ → List ℕ → Option Coordinate
find_first p track [] = None
find_first p track (x ∷ xs) = cond (p x) (Some (record { 0 = x - track * stride })) (find_first p track xs)

abbrev pub or_else : Option Coordinate → Option Coordinate → Option Coordinate
or_else (Some x) n = Some x
or_else None n = n

unfoldable pub find_last : (ℕ → Bool) → ℕ → List ℕ → Option Coordinate
find_last p track [] = None
find_last p track (x ∷ xs) = or_else (find_last p track xs) (cond (p x) (Some (record { 0 = x - track * stride })) None)

-- the nearest point strictly further on than l in a direction, within start to end
unfoldable pub nearest : Bool → ℕ → ℕ → ℕ → ℕ → List ℕ → Option Coordinate
nearest backward track l start end ks =
    cond backward (find_last (between (key track start) (key track l)) track ks)
    (find_first (between (key track l + 1) (key track end + 1)) track ks)

-- ---- what lookups may rely on

-- the info beside a key is not 0, so that an info of 0 says that there is no point
abbrev pub NonzeroInfos : List ℕ → List ℕ → Type 0
NonzeroInfos ks ds = (k : ℕ) → has_key k ks ≡ true → info_at k ks ds ≡ 0 → ⊥

-- the points of a board that keeps its rules: two rows with a place for each point, which they have by their type, no more points
-- than places, keys that ascend strictly, and no info 0
pub record PointsRule (t : Points) : Type 0 where
  pub keys : length t.keys ≡ point_most
  pub infos : length t.infos ≡ point_most
  pub count : t.count ≤ point_most
  pub order : ascending_from 0 (keys_of t) ≡ true
  pub nonzero : NonzeroInfos (keys_of t) (infos_of t)

-- The same of the keys and the infos held, as they are lent for a lookup
pub record RowsRule (ks ds : List ℕ) : Type 0 where
  pub paired : length ks ≡ length ds
  pub order : ascending_from 0 ks ≡ true
  pub nonzero : NonzeroInfos ks ds
