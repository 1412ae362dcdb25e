-- Data that are read from sources which show the layers' bytes are those that are defined: they are in the layer where they begin (window,
-- data_there), so possible replies are right (shown_layers_told), and are the defined ones if the layers are held (held_layers_told). Under
-- a digest each byte of data is one for which the digest vouches (data_vouched).
use Rattle.std.proofs.Common.{◌≤◌, ◌≡◌, ◌⊎◌, inl, inr, ◌∙◌, sym, ap, subst, ℕ, zero, suc, ◌+◌, ◌-◌, List, [], ◌∷◌, length, take, drop, map, Option, Some, None, refl, arith, lt_of_not-le}
use Rattle.std.specs.Prelude.{slice_get, ⊤}
use Rattle.std.specs.Option.{option_map, option_map_or, option_and_then}
use mathlib.Core.Logic.{dite}
use native.Mathlib.Decide.{dec_le}
use Rattle.std.proofs.lemmas.List.{length-take, drop-drop, drop-take, drop_all, take_all, take-take, take_min, drop_at}
use Rattle.std.proofs.lemmas.Option.{slice_get-map, get_or_from_slice_get}
use Rattle.devices.specs.Sources.{Source, sealed, MayLack, Shows, held}
use Rattle.devices.specs.Seal.{Seal}
use Rattle.devices.specs.Honest.{IsHonest}
use Rattle.devices.proofs.Given.{held_lacks}
use Rattle.romfs_format.specs.Fields.{name, data_at}
use Rattle.fuse_wire.specs.declared.limits.TheConstants.{OUT_HEADER_SIZE}
use Rattle.fuse_wire.specs.declared.errno.Errno.{Errno}
use Rattle.fuse_wire.specs.declared.errno.Errno.TheVariants.{EIO}
use Rattle.fuse_wire.specs.Requests.{Asked, NodeOp, Op, at_node, read}
use Rattle.fuse_wire.specs.Replies.{reply_head, reply_with, error_reply}
use Rattle.fuse_wire.specs.Told.{IsTold, IsRight, Reading}
use Rattle.fuse_wire.proofs.Sizes.{length-head, length-error_reply}
use Rattle.fuse_wire.proofs.Telling.{shown_told, whole_told}
use Rattle.stack_model.specs.Listing.{Stacked}
use Rattle.stack_model.specs.Numbers.{Place, node_of}
use Rattle.stack_model.specs.Attributes.{layer_of, size_at, data_start, data_of}
use Rattle.reply_model.specs.declared.session.Session.{Session}
use Rattle.reply_model.specs.Sessions.{agreement_of}
use Rattle.reply_model.specs.Refusals.{refusal}
use Rattle.reply_model.specs.Replies.{answer, reply}
use Rattle.reply_model.specs.Holding.{Holds, AreHeldBy}
use Rattle.reply_model.specs.Readings.{Sourced, sourced, reading_at, reading_from, reading_in, reading_of, AreShown, AreVouched, IsReplyOver, IsRightOver}

-- a front part is as many bytes as it has
own_length : (n : ℕ) (xs : List ℕ) → take n xs ≡ take (length (take n xs)) xs
own_length n xs = sym (take_min n xs) ∙ ap (λ k. take k xs) (sym (length-take n xs))

-- a part of a part of some bytes is a part of these
pub window : (m k n s : ℕ) (a : List ℕ) → (r : ℕ) × (take m (drop k (take n (drop s a))) ≡ take r (drop (s + k) a))
window m k n s a = dite (dec_le k n)
    (λ less.
    let e : k + (n - k) ≡ n = omega arith in
    let d : drop k (take n (drop s a)) ≡ take (n - k) (drop (s + k) a) =
    ap (λ i. drop k (take i (drop s a))) (sym e) ∙ drop-take k (n - k) (drop s a) ∙ ap (take (n - k)) (drop-drop k s a) in
    dite (dec_le m (n - k))
    (λ few. (m, ap (take m) d ∙ take-take m (n - k) (drop (s + k) a) few))
    (λ not. let more = lt_of_not-le not in let l = length-take (n - k) (drop (s + k) a) in
    (n - k, ap (take m) d ∙ take_all m (take (n - k) (drop (s + k) a)) (omega arith))))
    (λ not. let more = lt_of_not-le not in let l = length-take n (drop s a) in
    (0, ap (take m) (drop_all k (take n (drop s a)) (omega arith)) ∙ take_all m [] (omega arith)))

pub stands : (xs ys : List ℕ) → ((r : ℕ) × (xs ≡ take r ys)) → xs ≡ take (length xs) ys
stands xs ys (r, is) = is ∙ own_length r ys ∙ ap (λ l. take (length l) ys) (sym is)

-- the data of a place are in its layer where they begin
pub data_there : (layers : List (List ℕ)) (p : Place) (a : List ℕ) (offset size : ℕ) → layer_of layers p ≡ a
    → (r : ℕ) × (take size (drop offset (data_of layers p)) ≡ take r (drop (data_start layers p + offset) a))
unfolding data_of
data_there layers p a offset size is =
    subst (λ (b : List ℕ). (r : ℕ) × (take size (drop offset (data_of layers p)) ≡ take r (drop (data_start layers p + offset) b))) is
    (window size offset (size_at layers p) (option_map_or (data_at p.1) (name (layer_of layers p) p.1) 0) (layer_of layers p))

pub data_behind : (unique : ℕ) (bytes : List ℕ) → drop OUT_HEADER_SIZE (reply_with unique bytes) ≡ bytes
unfolding reply_with
data_behind unique bytes = drop_at (reply_head unique (length bytes)) bytes OUT_HEADER_SIZE (length-head unique (length bytes))

pub none_behind : (unique : ℕ) (errno : Errno) → drop OUT_HEADER_SIZE (error_reply unique errno) ≡ []
none_behind unique errno = drop_all OUT_HEADER_SIZE (error_reply unique errno) (let e = length-error_reply unique errno in omega arith)

-- without sources no data are read
none_at : (stack : Stacked) (op : NodeOp) (o : Option Place) → option_and_then (reading_at (sourced stack []) op) o ≡ None
none_at stack op None = refl
none_at stack (read offset size) (Some p) = refl
none_at stack _ (Some p) = refl

none_in : (stack : Stacked) (node : ℕ) (op : Op) → reading_in (sourced stack []) node op ≡ None
none_in stack node (at_node op) = none_at stack op (node_of stack.entries node)
none_in stack node _ = refl

pub reading_is : (stack : Stacked) (sources : List Source) (q : Asked)
    → reading_from stack sources q ≡ reading_in (sourced stack sources) q.node q.op
reading_is stack [] q = sym (none_in stack q.node q.op)
reading_is stack (source ∷ sources) q = refl

-- the source of a reply's data has, in this sense, the bytes that they are part of
abbrev pub AreFrom : (Source → List ℕ → Type 0) → Option Reading → List ℕ → Type 0
AreFrom P None defined = ⊤
AreFrom P (Some reading) defined =
    (xs : List ℕ) × P reading.source xs
    × (drop OUT_HEADER_SIZE defined ≡ take (length (drop OUT_HEADER_SIZE defined)) (drop reading.place xs))

-- each source has so the bytes at its position
abbrev pub EachHas : (Source → List ℕ → Type 0) → List Source → List (List ℕ) → Type 0
EachHas P sources images =
    (k : ℕ) (source : Source) → slice_get sources k ≡ Some source → (xs : List ℕ) × (slice_get images k ≡ Some xs) × P source xs

pub each_shown : (sources : List Source) (images : List (List ℕ)) → AreShown sources images → EachHas Shows sources images
each_shown [] [] s k source is = absurd (cc)
each_shown (x ∷ sources) (xs ∷ images) s zero source is =
    (xs, refl, subst (λ (z : Source). Shows z xs) (let e : x ≡ source = cc in e) s.0)
each_shown (x ∷ sources) (xs ∷ images) s (suc k) source is = each_shown sources images s.1 k source is
each_shown [] (xs ∷ images) s k source is = absurd s
each_shown (x ∷ sources) [] s k source is = absurd s

pub each_held : (sources : List Source) (images : List (List ℕ)) → AreHeldBy sources images → EachHas Holds sources images
each_held [] [] s k source is = absurd (cc)
each_held (x ∷ sources) (xs ∷ images) s zero source is =
    (xs, refl, subst (λ (z : Source). Holds z xs) (let e : x ≡ source = cc in e) s.0)
each_held (x ∷ sources) (xs ∷ images) s (suc k) source is = each_held sources images s.1 k source is
each_held [] (xs ∷ images) s k source is = absurd s
each_held (x ∷ sources) [] s k source is = absurd s

-- bytes that are held have this property
pub are_held : (images : List (List ℕ)) → AreHeldBy (map held images) images
are_held [] = tt
are_held (xs ∷ images) = (record { shows = refl; whole = held_lacks xs }, are_held images)

-- and so have those under a digest, if the file and its tree are held
pub honest_held : (s : Seal) (xs : List ℕ) → IsHonest s xs → Shows (sealed s) xs → Holds (sealed s) xs
honest_held s xs h shows = record { shows = shows; whole = whole }
  where
    whole : (end : ℕ) → end ≤ length xs → MayLack (sealed s) end → ⊥
    whole end within (inl fails) = fails.no xs h
    whole end within (inr past) = (let size = h.size in omega arith)

-- from shown bytes the reply is right, and from held bytes it is the defined one
pub right_from : (reading : Option Reading) (unique : ℕ) (defined bytes : List ℕ) → AreFrom Shows reading defined
    → IsTold reading unique defined bytes → IsRight reading unique defined bytes
right_from None unique defined bytes from t = t
right_from (Some reading) unique defined bytes (xs, shows, is) t = shown_told reading xs unique defined bytes shows is t

pub same_from : (reading : Option Reading) (unique : ℕ) (defined bytes : List ℕ) → AreFrom Holds reading defined
    → IsTold reading unique defined bytes → bytes ≡ defined
same_from None unique defined bytes from t = t
same_from (Some reading) unique defined bytes (xs, holds, is) t =
    whole_told reading xs unique defined bytes holds.shows holds.whole is t

module _ (P : Source → List ℕ → Type 0) (stack : Stacked) (sources : List Source) (each : EachHas P sources stack.layers) (s : Session)
    (unique node : ℕ) where
  abbrev by : Sourced
  by = sourced stack sources

  abbrev defined : Op → List ℕ
  defined op = reply stack s (record { unique = unique; node = node; op = op })

  -- the answer to a READ is in the layer where it is read
  read_there : (offset size : ℕ) (p : Place) (a : List ℕ) → node_of stack.entries node ≡ Some p → slice_get stack.layers p.0 ≡ Some a
      → (o : Option Errno) → (d : List ℕ)
      → d ≡ option_map_or (error_reply unique) o (reply_with unique (answer stack (agreement_of s) node (at_node (read offset size))))
      → drop OUT_HEADER_SIZE d ≡ take (length (drop OUT_HEADER_SIZE d)) (drop (data_start stack.layers p + offset) a)
  read_there offset size p a is there (Some errno) d e = rw (e, none_behind unique errno) refl
  read_there offset size p a is there None d e =
      let asked : List ℕ = take size (drop offset (data_of stack.layers p)) in
      let same : answer stack (agreement_of s) node (at_node (read offset size)) ≡ asked = rw is refl in
      let behind : drop OUT_HEADER_SIZE d ≡ asked = ap (drop OUT_HEADER_SIZE) (e ∙ ap (reply_with unique) same)
      ∙ data_behind unique asked in
      let layer : layer_of stack.layers p ≡ a = get_or_from_slice_get stack.layers p.0 a [] there in
      stands (drop OUT_HEADER_SIZE d) (drop (data_start stack.layers p + offset) a)
      (subst (λ (xs : List ℕ). (r : ℕ) × (xs ≡ take r (drop (data_start stack.layers p + offset) a))) (sym behind)
      (data_there stack.layers p a offset size layer))

  read_from_it : (offset size : ℕ) (p : Place) → node_of stack.entries node ≡ Some p → (o : Option Source) → slice_get sources p.0 ≡ o
      → AreFrom P (option_map (λ source. record { source = source; place = data_start stack.layers p + offset }) o)
      (defined (at_node (read offset size)))
  read_from_it offset size p is None e = tt
  read_from_it offset size p is (Some source) e =
      let (xs, there, has) = each p.0 source e in (
        xs,
        has,
        read_there offset size p xs is there (refusal stack s node (at_node (read offset size)))
            (defined (at_node (read offset size))) refl,
      )

  node_from : (op : NodeOp) (o : Option Place) → node_of stack.entries node ≡ o
      → AreFrom P (option_and_then (reading_at by op) o) (defined (at_node op))
  node_from op None e = tt
  node_from (read offset size) (Some p) e = read_from_it offset size p e (slice_get sources p.0) refl
  node_from _ (Some p) e = tt

  op_from : (op : Op) → AreFrom P (reading_in by node op) (defined op)
  op_from (at_node op) = node_from op (node_of stack.entries node) refl
  op_from _ = tt

all_from : (P : Source → List ℕ → Type 0) (stack : Stacked) (sources : List Source) → EachHas P sources stack.layers → (s : Session)
    (q : Asked) → AreFrom P (reading_of (sourced stack sources) q) (reply stack s q)
all_from P stack sources each s q =
    subst (λ (o : Option Reading). AreFrom P o (reply stack s q)) (sym (reading_is stack sources q))
    (op_from P stack sources each s q.unique q.node q.op)

-- a possible reply from sources that show the layers is right
pub shown_layers_told : (stack : Stacked) (sources : List Source) → AreShown sources stack.layers → (s : Session) (q : Asked)
    (bytes : List ℕ) → IsReplyOver (sourced stack sources) s q bytes → IsRightOver (sourced stack sources) (reply stack s q) q bytes
shown_layers_told stack sources shown s q bytes t =
    right_from (reading_of (sourced stack sources) q) q.unique (reply stack s q) bytes
    (all_from Shows stack sources (each_shown sources stack.layers shown) s q) t

-- from sources that hold them it is the reply that is defined
pub same_layers_told : (stack : Stacked) (sources : List Source) → AreHeldBy sources stack.layers → (s : Session) (q : Asked)
    (bytes : List ℕ) → IsReplyOver (sourced stack sources) s q bytes → bytes ≡ reply stack s q
same_layers_told stack sources held s q bytes t =
    same_from (reading_of (sourced stack sources) q) q.unique (reply stack s q) bytes
    (all_from Holds stack sources (each_held sources stack.layers held) s q) t

pub held_layers_told : (stack : Stacked) (s : Session) (q : Asked) (bytes : List ℕ)
    → IsReplyOver (sourced stack (map held stack.layers)) s q bytes → bytes ≡ reply stack s q
held_layers_told stack s q bytes t = same_layers_told stack (map held stack.layers) (are_held stack.layers) s q bytes t

-- ---- under a digest

vouched_told : (seal : Seal) (place unique : ℕ) (defined bytes : List ℕ)
    → IsTold (Some (record { source = sealed seal; place = place })) unique defined bytes
    → AreVouched seal place (drop OUT_HEADER_SIZE bytes) ⊎ (bytes ≡ error_reply unique EIO)
vouched_told seal place unique said bytes (inl given) = inl (record { each = λ k below. (given.given.each k below).vouched })
vouched_told seal place unique said bytes (inr unread) = inr unread.is

vouched_of : (reading : Option Reading) (seal : Seal) (place unique : ℕ) (defined bytes : List ℕ)
    → reading ≡ Some (record { source = sealed seal; place = place }) → IsTold reading unique defined bytes
    → AreVouched seal place (drop OUT_HEADER_SIZE bytes) ⊎ (bytes ≡ error_reply unique EIO)
vouched_of reading seal place unique defined bytes is t =
    vouched_told seal place unique defined bytes (subst (λ (o : Option Reading). IsTold o unique defined bytes) is t)

-- each byte of data is one for which the digest of its layer vouches
pub data_vouched : (stack : Stacked) (sources : List Source) (offset size : ℕ) (p : Place) (seal : Seal) (s : Session) (q : Asked)
    (bytes : List ℕ) → q.op ≡ at_node (read offset size) → node_of stack.entries q.node ≡ Some p
    → slice_get sources p.0 ≡ Some (sealed seal) → IsReplyOver (sourced stack sources) s q bytes
    → AreVouched seal (data_start stack.layers p + offset) (drop OUT_HEADER_SIZE bytes) ⊎ (bytes ≡ error_reply q.unique EIO)
data_vouched stack sources offset size p seal s q bytes op at under t =
    vouched_of (reading_of (sourced stack sources) q) seal (data_start stack.layers p + offset) q.unique (reply stack s q) bytes
    (reading_is stack sources q
    ∙ ap (reading_in (sourced stack sources) q.node) op
    ∙ ap (λ (o : Option Place). option_and_then (reading_at (sourced stack sources) (read offset size)) o) at
    ∙ ap (option_map (λ source. record { source = source; place = data_start stack.layers p + offset })) under) t
