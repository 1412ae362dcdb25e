-- Possible replies over what was gathered from images: if data are read from sources that hold the images' bytes, the reply that is defined
-- over the images (told_of), and no other (told_back); from sources that show them that reply, or EIO (right_of). From any sources, that
-- reply, if it is not to a READ (others_of); and to a READ one as long after its header, or EIO (front_of).
use Rattle.std.proofs.Common.{◌⊎◌, ◌≡◌, ◌≢◌, ◌∙◌, sym, ap, subst, ℕ, zero, suc, ◌+◌, ◌-◌, ◌<◌, List, [], ◌∷◌, Bool, length, take, drop, map, min, inl, inr, Option, Some, None, refl, arith, length-take, length-drop, if◌then◌else◌}
use Rattle.std.specs.Prelude.{slice_get}
use Rattle.std.specs.Option.{option_map, option_map_or, option_and_then}
use Rattle.std.proofs.lemmas.List.{take_at}
use Rattle.std.proofs.lemmas.Option.{slice_get-map, get_or_from_slice_get}
use Rattle.devices.specs.Sources.{Source, held, MayLack, MayGive, Shows}
use Rattle.devices.proofs.Held.{held_may}
use Rattle.stack_model.specs.declared.owner.Owner.{Owner}
use Rattle.romfs_format.specs.declared.attribute_row.AttributeRow.{AttributeRow}
use Rattle.romfs_format.specs.Extended.{Extended}
use Rattle.romfs_format.specs.Fields.{image, word}
use Rattle.fuse_wire.specs.declared.limits.TheConstants.{OUT_HEADER_SIZE}
use Rattle.fuse_wire.specs.declared.errno.Errno.{Errno}
use Rattle.fuse_wire.specs.declared.errno.Errno.TheVariants.{EIO}
use Rattle.fuse_wire.specs.Requests.{NodeOp, Op, read, at_node, statfs}
use Rattle.fuse_wire.specs.Replies.{reply_head, reply_with, error_reply}
use Rattle.fuse_wire.specs.Structures.{statfs_out}
use Rattle.fuse_wire.specs.Told.{IsTold, IsRight, Reading}
use Rattle.fuse_wire.proofs.Sizes.{length-head, length-reply_with}
use Rattle.stack_model.specs.Listing.{Entry, Stacked}
use Rattle.stack_model.specs.Numbers.{Place, node_of, nodes}
use Rattle.stack_model.specs.Attributes.{layer_of, size_at, data_start, data_of, blocks_all}
use Rattle.reply_model.specs.declared.session.Session.{Session}
use Rattle.reply_model.specs.Sessions.{agreement_of}
use Rattle.reply_model.specs.Refusals.{refusal}
use Rattle.reply_model.specs.Replies.{answer, answer_at, reply, is_silent}
use Rattle.reply_model.specs.Holding.{Holds, AreHeldBy}
use Rattle.reply_model.specs.Readings.{Sourced, sourced, reading_at, reading_in, AreShown, IsReplyOver, IsRightOver}
use Rattle.reply_model.proofs.HeldData.{AreFrom, reading_is, right_from, same_from, window, stands, data_there, data_behind, none_behind}
use Rattle.reply_model.proofs.Refused.{not_by_op}
use Rattle.serve_core.proofs.Places.{IsSamePlace}
use Rattle.serve_core.proofs.Nodes.{IsNode, used_node}
use Rattle.serve_core.proofs.Replied.{refusal_same, node_answer_same}

-- an element of a front part of a list is in the list
in_front : (xs : List ℕ) (r k n : ℕ) (a : List ℕ) → xs ≡ take r (drop k (take n a)) → (t : ℕ) × (xs ≡ take t (drop k a))
in_front xs r k n a is =
    let z : (0 + k) ≡ k = omega arith in
    let w = window r k n 0 a in (w.0, is ∙ w.1 ∙ ap (λ i. take w.0 (drop i a)) z)

data_long : (xs ys : List (List ℕ)) (p : Place) → IsSamePlace xs ys p → length (data_of xs p) ≡ length (data_of ys p)
unfolding data_of
data_long xs ys p s =
    length-take (size_at xs p) (drop (data_start xs p) (layer_of xs p))
    ∙ ap (λ n. min (size_at xs p) n) (length-drop (data_start xs p) (layer_of xs p))
    ∙ ap (λ n. min n (length (layer_of xs p) - data_start xs p)) s.sizes
    ∙ ap (λ n. min (size_at ys p) (n - data_start xs p)) s.longs
    ∙ ap (λ n. min (size_at ys p) (length (layer_of ys p) - n)) s.starts
    ∙ sym (length-take (size_at ys p) (drop (data_start ys p) (layer_of ys p))
    ∙ ap (λ n. min (size_at ys p) n) (length-drop (data_start ys p) (layer_of ys p)))

part_long : (m k : ℕ) (xs ys : List ℕ) → length xs ≡ length ys → length (take m (drop k xs)) ≡ length (take m (drop k ys))
part_long m k xs ys e =
    length-take m (drop k xs) ∙ ap (λ n. min m n) (length-drop k xs ∙ ap (λ n. n - k) e ∙ sym (length-drop k ys))
    ∙ sym (length-take m (drop k ys))

head_before : (unique : ℕ) (bytes : List ℕ) → take OUT_HEADER_SIZE (reply_with unique bytes) ≡ reply_head unique (length bytes)
unfolding reply_with
head_before unique bytes = take_at (reply_head unique (length bytes)) bytes OUT_HEADER_SIZE (length-head unique (length bytes))

image_is : (c : List ℕ) → image c ≡ take (word c 8) c
unfolding image
image_is c = refl

-- each of the images has a source that has its bytes, in this sense
abbrev pub AllHave : (Source → List ℕ → Type 0) → List Source → List (List ℕ) → Type 0
AllHave P sources images =
    (k : ℕ) (xs : List ℕ) → slice_get images k ≡ Some xs → (source : Source) × (slice_get sources k ≡ Some source) × P source xs

all_held : (images : List (List ℕ)) → AllHave (λ source xs. source ≡ held xs) (map held images) images
all_held images k xs is = (held xs, slice_get-map held images k ∙ ap (option_map held) is, refl)

all_kept : (sources : List Source) (images : List (List ℕ)) → AreHeldBy sources images → AllHave Holds sources images
all_kept [] [] s k xs is = absurd (cc)
all_kept (x ∷ sources) (ys ∷ images) s zero xs is =
    (x, refl, subst (λ (l : List ℕ). Holds x l) (let e : ys ≡ xs = cc in e) s.0)
all_kept (x ∷ sources) (ys ∷ images) s (suc k) xs is = all_kept sources images s.1 k xs is
all_kept [] (ys ∷ images) s k xs is = absurd s
all_kept (x ∷ sources) [] s k xs is = absurd s

all_shown : (sources : List Source) (images : List (List ℕ)) → AreShown sources images → AllHave Shows sources images
all_shown [] [] s k xs is = absurd (cc)
all_shown (x ∷ sources) (ys ∷ images) s zero xs is =
    (x, refl, subst (λ (l : List ℕ). Shows x l) (let e : ys ≡ xs = cc in e) s.0)
all_shown (x ∷ sources) (ys ∷ images) s (suc k) xs is = all_shown sources images s.1 k xs is
all_shown [] (ys ∷ images) s k xs is = absurd s
all_shown (x ∷ sources) [] s k xs is = absurd s

-- as long as a reply, and after the same header
abbrev pub HasFront : List ℕ → List ℕ → Type 0
HasFront defined bytes = (length bytes ≡ length defined) × (take OUT_HEADER_SIZE bytes ≡ take OUT_HEADER_SIZE defined)

-- replies that are as long, after the same header, are possible alike if their data are read
pub record IsSameFront (d e : List ℕ) : Type 0 where
  pub long : length d ≡ length e
  pub head : take OUT_HEADER_SIZE d ≡ take OUT_HEADER_SIZE e

told_goes : (reading : Reading) (unique : ℕ) (d e bytes : List ℕ) → IsSameFront d e → IsTold (Some reading) unique d bytes
    → IsTold (Some reading) unique e bytes
told_goes reading unique d e bytes s (inl r) = inl (record { long = r.long ∙ s.long; head = r.head ∙ s.head; given = r.given })
told_goes reading unique d e bytes s (inr u) =
    let l = s.long in
    let some = u.some in
    inr (record {
      some = (let q : OUT_HEADER_SIZE < length e = omega arith in q);
      is = u.is;
      lacks = subst (λ n. MayLack reading.source (reading.place + (n - OUT_HEADER_SIZE))) l u.lacks;
    })

replied_front : (unique : ℕ) (o : Option Errno) (xs ys : List ℕ) → length xs ≡ length ys
    → IsSameFront (option_map_or (error_reply unique) o (reply_with unique xs))
    (option_map_or (error_reply unique) o (reply_with unique ys))
replied_front unique (Some errno) xs ys e = record { long = refl; head = refl }
replied_front unique None xs ys e = record {
  long = length-reply_with unique xs ∙ ap (λ n. 16 + n) e ∙ sym (length-reply_with unique ys);
  head = head_before unique xs ∙ ap (reply_head unique) e ∙ sym (head_before unique ys);
}

module _ (la bs : List (List ℕ)) (es : List Entry) (rs : List (List AttributeRow)) (ls : List (List (List Extended)))
    (owner : Owner) (wa wb : Bool)
    (same : (p : Place) → IsNode es p → IsSamePlace la (map image bs) p)
    (there : (p : Place) → IsNode es p → (b : List ℕ) × (slice_get bs p.0 ≡ Some b))
    (blocks : blocks_all la ≡ blocks_all (map image bs)) (s : Session) (unique node : ℕ) (bytes : List ℕ) where
  abbrev lb : List (List ℕ)
  lb = map image bs

  abbrev a : Stacked
  a = record { layers = la; entries = es; rows = rs; lists = ls; owner = owner; whole = wa }

  abbrev b : Stacked
  b = record { layers = lb; entries = es; rows = rs; lists = ls; owner = owner; whole = wb }

  abbrev by : List Source → Sourced
  by sources = sourced a sources

  abbrev answered : Stacked → Op → List ℕ
  answered stack op = answer stack (agreement_of s) node op

  abbrev defined : Stacked → Op → List ℕ
  defined stack op = reply stack s (record { unique = unique; node = node; op = op })

  -- the reply by the refusal of the other stack
  by_refusal : (op : Op) → defined a op
      ≡ (if is_silent op then [] else option_map_or (error_reply unique) (refusal b s node op) (reply_with unique (answered a op)))
  by_refusal op =
      ap (λ o. if is_silent op then [] else option_map_or (error_reply unique) o (reply_with unique (answered a op)))
      (refusal_same la lb es rs ls owner wa wb same s node op)

  by_answer : (op : Op) (o : Option Errno) → (o ≡ None → answered a op ≡ answered b op)
      → option_map_or (error_reply unique) o (reply_with unique (answered a op))
      ≡ option_map_or (error_reply unique) o (reply_with unique (answered b op))
  by_answer op (Some errno) f = refl
  by_answer op None f = ap (reply_with unique) (f refl)

  defined_same : (op : Op) → (refusal b s node op ≡ None → answered a op ≡ answered b op) → defined a op ≡ defined b op
  defined_same op f = by_refusal op ∙ ap (λ t. if is_silent op then [] else t) (by_answer op (refusal b s node op) f)

  read_front : (offset size : ℕ) (p : Place) → node_of es node ≡ Some p
      → IsSameFront (defined a (at_node (read offset size))) (defined b (at_node (read offset size)))
  read_front offset size p is =
      let op : Op = at_node (read offset size) in
      let xs : List ℕ = take size (drop offset (data_of la p)) in
      let ys : List ℕ = take size (drop offset (data_of lb p)) in
      let ea : answered a op ≡ xs = ap (λ (o : Option Place). option_map_or (λ p. take size (drop offset (data_of la p))) o []) is in
      let eb : answered b op ≡ ys = ap (λ (o : Option Place). option_map_or (λ p. take size (drop offset (data_of lb p))) o []) is in
      let long : length (answered a op) ≡ length (answered b op) =
      ap length ea ∙ part_long size offset (data_of la p) (data_of lb p) (data_long la lb p (same p (used_node es node p is)))
      ∙ sym (ap length eb) in
      subst (λ d. IsSameFront d (defined b op)) (sym (by_refusal op))
      (replied_front unique (refusal b s node op) (answered a op) (answered b op) long)

  read_there : (offset size : ℕ) (p : Place) (c : List ℕ) → node_of es node ≡ Some p → slice_get bs p.0 ≡ Some c → (o : Option Errno)
      → (d : List ℕ) → d ≡ option_map_or (error_reply unique) o (reply_with unique (answered b (at_node (read offset size))))
      → drop OUT_HEADER_SIZE d ≡ take (length (drop OUT_HEADER_SIZE d)) (drop (data_start lb p + offset) c)
  read_there offset size p c is at (Some errno) d e = rw (e, none_behind unique errno) refl
  read_there offset size p c is at None d e =
      let asked : List ℕ = take size (drop offset (data_of lb p)) in
      let eb : answered b (at_node (read offset size)) ≡ asked =
      ap (λ (o : Option Place). option_map_or (λ p. take size (drop offset (data_of lb p))) o []) is in
      let behind : drop OUT_HEADER_SIZE d ≡ asked = ap (drop OUT_HEADER_SIZE) (e ∙ ap (reply_with unique) eb) ∙ data_behind unique asked in
      let layer : layer_of lb p ≡ image c =
      get_or_from_slice_get lb p.0 (image c) [] (slice_get-map image bs p.0 ∙ ap (option_map image) at) in
      let t = data_there lb p (image c) offset size layer in
      let front : take t.0 (drop (data_start lb p + offset) (image c)) ≡ take t.0 (drop (data_start lb p + offset) (take (word c 8) c)) =
      ap (λ i. take t.0 (drop (data_start lb p + offset) i)) (image_is c) in
      stands (drop OUT_HEADER_SIZE d) (drop (data_start lb p + offset) c)
      (in_front (drop OUT_HEADER_SIZE d) t.0 (data_start lb p + offset) (word c 8) c (behind ∙ t.1 ∙ front))

  -- ---- a request reads no data, and is replied the same over both; or it is a READ of a node

  IsPlain : Op → Type 0
  IsPlain op = ((sources : List Source) → reading_in (by sources) node op ≡ None) × (defined a op ≡ defined b op)

  IsReadOf : Op → Type 0
  IsReadOf op = (offset size : ℕ) × (p : Place) × (op ≡ at_node (read offset size)) × (node_of es node ≡ Some p)

  node_kind : (op : NodeOp) (o : Option Place) → node_of es node ≡ o → IsPlain (at_node op) ⊎ IsReadOf (at_node op)
  unfolding IsPlain IsReadOf
  node_kind op None e = inl (
    (λ sources. ap (λ (o : Option Place). option_and_then (reading_at (by sources) op) o) e),
    defined_same (at_node op) (λ i.
        ap (λ (o : Option Place). option_map_or (answer_at a (agreement_of s) op) o []) e
        ∙ sym (ap (λ (o : Option Place). option_map_or (answer_at b (agreement_of s) op) o []) e)),
  )
  node_kind (read offset size) (Some p) e = inr (offset, size, p, refl, e)
  node_kind op (Some p) e = inl (
    (λ sources. ap (λ (o : Option Place). option_and_then (reading_at (by sources) op) o) e),
    defined_same (at_node op) (λ i. node_answer_same la lb es rs ls owner wa wb same (agreement_of s) op (node_of es node)
        (λ p j. used_node es node p j) tt (not_by_op b s node (at_node op) i)),
  )

  kind_of : (op : Op) → IsPlain op ⊎ IsReadOf op
  unfolding IsPlain IsReadOf
  kind_of (at_node op) = node_kind op (node_of es node) refl
  kind_of statfs = inl ((λ sources. refl), defined_same statfs (λ i. ap (λ n. statfs_out n (length (nodes es))) blocks))
  kind_of op = inl ((λ sources. refl), defined_same op (λ i. refl))

  -- ---- a READ

  module _ (op : Op) (offset size : ℕ) (p : Place) (is : op ≡ at_node (read offset size)) (at : node_of es node ≡ Some p) where
    fronts : IsSameFront (defined a op) (defined b op)
    fronts = subst (λ x. IsSameFront (defined a x) (defined b x)) (sym is) (read_front offset size p at)

    its_image : (c : List ℕ) × (slice_get bs p.0 ≡ Some c)
    its_image = there p (used_node es node p at)

    in_image : drop OUT_HEADER_SIZE (defined b op)
        ≡ take (length (drop OUT_HEADER_SIZE (defined b op))) (drop (data_start la p + offset) its_image.0)
    in_image =
        let starts = (same p (used_node es node p at)).starts in
        subst (λ x. drop OUT_HEADER_SIZE (defined b x)
        ≡ take (length (drop OUT_HEADER_SIZE (defined b x))) (drop (data_start la p + offset) its_image.0)) (sym is)
        (subst (λ k. drop OUT_HEADER_SIZE (defined b (at_node (read offset size)))
        ≡ take (length (drop OUT_HEADER_SIZE (defined b (at_node (read offset size))))) (drop (k + offset) its_image.0)) (sym starts)
        (read_there offset size p its_image.0 at its_image.1 (refusal b s node (at_node (read offset size)))
        (defined b (at_node (read offset size))) refl))

    -- each image has a source that has its bytes, in this sense
    module _ (P : Source → List ℕ → Type 0) (sources : List Source) (all : AllHave P sources bs) where
      its_source : (source : Source) × (slice_get sources p.0 ≡ Some source) × P source its_image.0
      its_source = all p.0 its_image.0 its_image.1

      abbrev reading : Reading
      reading = record { source = its_source.0; place = data_start la p + offset }

      reading_same : reading_in (by sources) node op ≡ Some reading
      reading_same =
          ap (reading_in (by sources) node) is
          ∙ ap (λ (o : Option Place). option_and_then (reading_at (by sources) (read offset size)) o) at
          ∙ ap (option_map (λ source. record { source = source; place = data_start la p + offset })) its_source.1

      read_from_it : AreFrom P (reading_in (by sources) node op) (defined b op)
      read_from_it = subst (λ (o : Option Reading). AreFrom P o (defined b op)) (sym reading_same) (its_image.0, its_source.2, in_image)

      read_goes : IsTold (reading_in (by sources) node op) unique (defined a op) bytes
          → IsTold (reading_in (by sources) node op) unique (defined b op) bytes
      read_goes t = subst (λ (o : Option Reading). IsTold o unique (defined b op) bytes) (sym reading_same)
          (told_goes reading unique (defined a op) (defined b op) bytes fronts
          (subst (λ (o : Option Reading). IsTold o unique (defined a op) bytes) reading_same t))

    read_back : bytes ≡ defined b op → IsTold (reading_in (by (map held bs)) node op) unique (defined a op) bytes
    read_back e =
        let P : Source → List ℕ → Type 0 = λ source xs. source ≡ held xs in
        let from : Source = (its_source P (map held bs) (all_held bs)).0 in
        let holds : from ≡ held its_image.0 = (its_source P (map held bs) (all_held bs)).2 in
        let place : ℕ = data_start la p + offset in
        let there = sym (reading_same P (map held bs) (all_held bs)) in
        subst (λ (o : Option Reading). IsTold o unique (defined a op) bytes) there (inl (record {
          long = ap length e ∙ sym fronts.long;
          head = ap (take OUT_HEADER_SIZE) e ∙ sym fronts.head;
          given = subst (λ (z : Source). MayGive z place (drop OUT_HEADER_SIZE bytes)) (sym holds)
              (subst (λ xs. MayGive (held its_image.0) place xs) (sym in_image ∙ sym (ap (drop OUT_HEADER_SIZE) e))
              (held_may its_image.0 place (length (drop OUT_HEADER_SIZE (defined b op)))));
        }))

    front_told : (o : Option Reading) → IsTold o unique (defined a op) bytes
        → HasFront (defined b op) bytes ⊎ (bytes ≡ error_reply unique EIO)
    front_told None t = inl (ap length t ∙ fronts.long, ap (take OUT_HEADER_SIZE) t ∙ fronts.head)
    front_told (Some r) (inl t) = inl (t.long ∙ fronts.long, t.head ∙ fronts.head)
    front_told (Some r) (inr t) = inr t.is

  -- ---- each request

  -- a possible reply over what was gathered is possible over the images, and its data are in them
  module _ (P : Source → List ℕ → Type 0) (sources : List Source) (all : AllHave P sources bs) where
    GoesOver : Op → Type 0
    GoesOver op = AreFrom P (reading_in (by sources) node op) (defined b op)
        × IsTold (reading_in (by sources) node op) unique (defined b op) bytes

    goes_by : (op : Op) → IsPlain op ⊎ IsReadOf op → IsTold (reading_in (by sources) node op) unique (defined a op) bytes → GoesOver op
    unfolding IsPlain IsReadOf GoesOver
    goes_by op (inl k) t = (
      subst (λ (o : Option Reading). AreFrom P o (defined b op)) (sym (k.0 sources)) tt,
      subst (λ (o : Option Reading). IsTold o unique (defined b op) bytes) (sym (k.0 sources))
          (subst (λ (o : Option Reading). IsTold o unique (defined a op) bytes) (k.0 sources) t ∙ k.1),
    )
    goes_by op (inr (offset, size, p, is, at)) t =
        (read_from_it op offset size p is at P sources all, read_goes op offset size p is at P sources all t)

  told_by : (sources : List Source) → AreHeldBy sources bs → (op : Op) → IsPlain op ⊎ IsReadOf op
      → IsTold (reading_in (by sources) node op) unique (defined a op) bytes → bytes ≡ defined b op
  unfolding GoesOver
  told_by sources kept op k t =
      let g = goes_by Holds sources (all_kept sources bs kept) op k t in
      same_from (reading_in (by sources) node op) unique (defined b op) bytes g.0 g.1

  right_by : (sources : List Source) → AreShown sources bs → (op : Op) → IsPlain op ⊎ IsReadOf op
      → IsTold (reading_in (by sources) node op) unique (defined a op) bytes
      → IsRight (reading_in (by sources) node op) unique (defined b op) bytes
  unfolding GoesOver
  right_by sources shown op k t =
      let g = goes_by Shows sources (all_shown sources bs shown) op k t in
      right_from (reading_in (by sources) node op) unique (defined b op) bytes g.0 g.1

  back_by : (op : Op) → IsPlain op ⊎ IsReadOf op → bytes ≡ defined b op
      → IsTold (reading_in (by (map held bs)) node op) unique (defined a op) bytes
  unfolding IsPlain IsReadOf
  back_by op (inl k) e = subst (λ (o : Option Reading). IsTold o unique (defined a op) bytes) (sym (k.0 (map held bs))) (e ∙ sym k.1)
  back_by op (inr (offset, size, p, is, at)) e = read_back op offset size p is at e

  others_by : (sources : List Source) (op : Op) → IsPlain op ⊎ IsReadOf op
      → ((offset size : ℕ) → op ≢ at_node (read offset size)) → IsTold (reading_in (by sources) node op) unique (defined a op) bytes
      → bytes ≡ defined b op
  unfolding IsPlain IsReadOf
  others_by sources op (inl k) n t = subst (λ (o : Option Reading). IsTold o unique (defined a op) bytes) (k.0 sources) t ∙ k.1
  others_by sources op (inr (offset, size, p, is, at)) n t = absurd (n offset size is)

  front_by : (sources : List Source) (op : Op) → IsPlain op ⊎ IsReadOf op
      → IsTold (reading_in (by sources) node op) unique (defined a op) bytes
      → HasFront (defined b op) bytes ⊎ (bytes ≡ error_reply unique EIO)
  unfolding IsPlain IsReadOf
  front_by sources op (inl k) t =
      let e = subst (λ (o : Option Reading). IsTold o unique (defined a op) bytes) (k.0 sources) t ∙ k.1 in
      inl (ap length e, ap (take OUT_HEADER_SIZE) e)
  front_by sources op (inr (offset, size, p, is, at)) t = front_told op offset size p is at (reading_in (by sources) node op) t

  reads : (sources : List Source) (op : Op) → IsReplyOver (by sources) s (record { unique = unique; node = node; op = op }) bytes
      → IsTold (reading_in (by sources) node op) unique (defined a op) bytes
  reads sources op t = subst (λ (o : Option Reading). IsTold o unique (defined a op) bytes)
      (reading_is a sources (record { unique = unique; node = node; op = op })) t

  pub told_of : (sources : List Source) → AreHeldBy sources bs → (op : Op)
      → IsReplyOver (by sources) s (record { unique = unique; node = node; op = op }) bytes → bytes ≡ defined b op
  told_of sources kept op t = told_by sources kept op (kind_of op) (reads sources op t)

  pub told_back : (op : Op) → bytes ≡ defined b op
      → IsReplyOver (by (map held bs)) s (record { unique = unique; node = node; op = op }) bytes
  told_back op e = subst (λ (o : Option Reading). IsTold o unique (defined a op) bytes)
      (sym (reading_is a (map held bs) (record { unique = unique; node = node; op = op }))) (back_by op (kind_of op) e)

  pub others_of : (sources : List Source) (op : Op) → ((offset size : ℕ) → op ≢ at_node (read offset size))
      → IsReplyOver (by sources) s (record { unique = unique; node = node; op = op }) bytes → bytes ≡ defined b op
  others_of sources op n t = others_by sources op (kind_of op) n (reads sources op t)

  pub front_of : (sources : List Source) (op : Op) → IsReplyOver (by sources) s (record { unique = unique; node = node; op = op }) bytes
      → HasFront (defined b op) bytes ⊎ (bytes ≡ error_reply unique EIO)
  front_of sources op t = front_by sources op (kind_of op) (reads sources op t)

  pub right_of : (sources : List Source) → AreShown sources bs → (op : Op)
      → IsReplyOver (by sources) s (record { unique = unique; node = node; op = op }) bytes
      → IsRightOver (by sources) (defined b op) (record { unique = unique; node = node; op = op }) bytes
  right_of sources shown op t =
      subst (λ (o : Option Reading). IsRight o unique (defined b op) bytes)
      (sym (reading_is a sources (record { unique = unique; node = node; op = op })))
      (right_by sources shown op (kind_of op) (reads sources op t))
