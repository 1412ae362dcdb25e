-- Over what was gathered from images, with sources that hold them, a request may get the reply that is defined over the images (told_alike,
-- told_same), and no other (told_too), and moves the same lookups (moved_alike). From sources that show them it gets that reply, or EIO
-- (told_right). From any sources it gets that reply, if it is not a READ (told_others), and otherwise one as long after its header, or EIO
-- (told_front).
use Rattle.std.proofs.Common.{◌≡◌, ◌≢◌, ◌⊎◌, ◌∙◌, sym, ap, subst, ℕ, List, map, Option, Some, None, refl}
use Rattle.std.specs.Prelude.{slice_get}
use Rattle.std.specs.Option.{option_map}
use Rattle.std.proofs.lemmas.Option.{slice_get-map}
use Rattle.devices.specs.Sources.{Source, held}
use Rattle.romfs_format.specs.Fields.{image}
use Rattle.fuse_wire.specs.declared.errno.Errno.TheVariants.{EIO}
use Rattle.fuse_wire.specs.Replies.{error_reply}
use Rattle.fuse_wire.specs.Requests.{Asked, at_node, read}
use Rattle.stack_model.specs.Listing.{Stacked, IsListing}
use Rattle.stack_model.specs.Numbers.{Place}
use Rattle.stack_model.proofs.Listings.{one_listing}
use Rattle.reply_model.specs.declared.session.Session.{Session}
use Rattle.reply_model.specs.Moves.{moves}
use Rattle.reply_model.specs.Holding.{AreHeldBy}
use Rattle.reply_model.proofs.HeldData.{are_held}
use Rattle.reply_model.specs.Readings.{sourced, AreShown, IsReplyOver, IsRightOver}
use Rattle.reply_model.specs.Replies.{reply}
use Rattle.serve_core.specs.Kept.{AreStacksOf}
use Rattle.serve_core.proofs.Layers.{LookSame, look_back, listing_goes, entry_pair}
use Rattle.serve_core.proofs.Moving.{moves_same}
use Rattle.serve_core.proofs.Nodes.{IsNode}
use Rattle.serve_core.proofs.Places.{IsSamePlace, place_same, blocks_same}
use Rattle.serve_core.proofs.Stacking.{look_all, rows_all, lists_all}
use Rattle.serve_core.proofs.Telling.{HasFront, told_of, told_back, right_of, others_of, front_of}

some_of : (o : Option (List ℕ)) (y : List ℕ) → option_map image o ≡ Some y → (b : List ℕ) × (o ≡ Some b)
some_of None y i = absurd (cc)
some_of (Some b) y i = (b, refl)

module _ (images : List (List ℕ)) (a b : Stacked) (k : AreStacksOf images a b) where
  abbrev kept : List (List ℕ)
  kept = k.kept

  looks : LookSame (map image kept) (map image images)
  looks = look_back (map image images) (map image kept) (look_all k.profile images kept k.kept_are k.of_images.layers.sound)

  listed : IsListing (map image kept) b.entries
  listed = listing_goes (map image images) (map image kept) (look_back (map image kept) (map image images) looks) b.entries
      (subst (λ ls. IsListing ls b.entries) k.of_images.layers.are k.of_images.listing)

  entries_are : a.entries ≡ b.entries
  entries_are = one_listing (map image kept) a.entries b.entries
      (subst (λ ls. IsListing ls a.entries) k.of_kept.layers.are k.of_kept.listing) listed

  rows_are : a.rows ≡ b.rows
  rows_are = k.of_kept.rows_are ∙ rows_all k.profile images kept k.kept_are k.of_images.layers.sound ∙ sym k.of_images.rows_are

  lists_are : a.lists ≡ b.lists
  lists_are = k.of_kept.lists_are ∙ lists_all k.profile images kept k.kept_are k.of_images.layers.sound ∙ sym k.of_images.lists_are

  abbrev kept_stack : Stacked
  kept_stack = record { layers = map image kept; entries = b.entries; rows = b.rows; lists = b.lists; owner = b.owner; whole = a.whole }

  abbrev whole_stack : Stacked
  whole_stack = record { layers = map image images; entries = b.entries; rows = b.rows; lists = b.lists; owner = b.owner; whole = b.whole }

  a_is : a ≡ kept_stack
  a_is =
      let one : a ≡ record a { layers = map image kept } = ap (λ ls. record a { layers = ls }) k.of_kept.layers.are in
      one
      ∙ ap (λ es. record a { layers = map image kept; entries = es }) entries_are
      ∙ ap (λ rs. record a { layers = map image kept; entries = b.entries; rows = rs }) rows_are
      ∙ ap (λ ls. record a { layers = map image kept; entries = b.entries; rows = b.rows; lists = ls }) lists_are
      ∙ ap (λ o. record a { layers = map image kept; entries = b.entries; rows = b.rows; lists = b.lists; owner = o })
      (k.of_kept.owner_is ∙ sym k.of_images.owner_is)

  b_is : b ≡ whole_stack
  b_is = ap (λ ls. record b { layers = ls }) k.of_images.layers.are

  same : (p : Place) → IsNode b.entries p → IsSamePlace (map image kept) (map image images) p
  same p (e, m, i) = subst (λ q. IsSamePlace (map image kept) (map image images) q) i
      (place_same (map image kept) (map image images) e.layer e.header
      (entry_pair (map image kept) (map image images) looks b.entries listed e m))

  there : (p : Place) → IsNode b.entries p → (c : List ℕ) × (slice_get images p.0 ≡ Some c)
  there p (e, m, i) =
      let q = entry_pair (map image kept) (map image images) looks b.entries listed e m in
      subst (λ (r : Place). (c : List ℕ) × (slice_get images r.0 ≡ Some c)) i
      (some_of (slice_get images e.layer) q.b (sym (slice_get-map image images e.layer) ∙ q.b_is))

  pub told_same : (sources : List Source) → AreHeldBy sources images → (s : Session) (q : Asked) (bytes : List ℕ)
      → IsReplyOver (sourced a sources) s q bytes → bytes ≡ reply b s q
  told_same sources kept s q bytes t =
      told_of (map image k.kept) images b.entries b.rows b.lists b.owner a.whole b.whole same there
      (blocks_same (map image k.kept) (map image images) looks) s q.unique q.node bytes sources kept q.op
      (subst (λ st. IsReplyOver (sourced st sources) s q bytes) a_is t)
      ∙ sym (ap (λ st. reply st s q) b_is)

  pub told_alike : (s : Session) (q : Asked) (bytes : List ℕ) → IsReplyOver (sourced a (map held images)) s q bytes → bytes ≡ reply b s q
  told_alike s q bytes t = told_same (map held images) (are_held images) s q bytes t

  pub told_right : (sources : List Source) → AreShown sources images → (s : Session) (q : Asked) (bytes : List ℕ)
      → IsReplyOver (sourced a sources) s q bytes → IsRightOver (sourced a sources) (reply b s q) q bytes
  told_right sources shown s q bytes t =
      subst (λ st. IsRightOver (sourced st sources) (reply b s q) q bytes) (sym a_is)
      (subst (λ d. IsRightOver (sourced kept_stack sources) d q bytes) (sym (ap (λ st. reply st s q) b_is))
      (right_of (map image kept) images b.entries b.rows b.lists b.owner a.whole b.whole same there
      (blocks_same (map image kept) (map image images) looks) s q.unique q.node bytes sources shown q.op
      (subst (λ st. IsReplyOver (sourced st sources) s q bytes) a_is t)))

  pub told_too : (s : Session) (q : Asked) (bytes : List ℕ) → bytes ≡ reply b s q → IsReplyOver (sourced a (map held images)) s q bytes
  told_too s q bytes t =
      subst (λ st. IsReplyOver (sourced st (map held images)) s q bytes) (sym a_is)
      (told_back (map image kept) images b.entries b.rows b.lists b.owner a.whole b.whole same there
      (blocks_same (map image kept) (map image images) looks) s q.unique q.node bytes q.op (t ∙ ap (λ st. reply st s q) b_is))

  pub moved_alike : (s : Session) (q : Asked) → moves a s q ≡ moves b s q
  moved_alike s q =
      ap (λ st. moves st s q) a_is
      ∙ moves_same (map image kept) (map image images) b.entries b.rows b.lists b.owner a.whole b.whole same s q
      ∙ sym (ap (λ st. moves st s q) b_is)

  pub entries_alike : a.entries ≡ b.entries
  entries_alike = entries_are

  module _ (sources : List Source) (s : Session) (q : Asked) (bytes : List ℕ) (t : IsReplyOver (sourced a sources) s q bytes) where
    over_kept : IsReplyOver (sourced kept_stack sources) s q bytes
    over_kept = subst (λ st. IsReplyOver (sourced st sources) s q bytes) a_is t

    pub told_others : ((offset size : ℕ) → q.op ≢ at_node (read offset size)) → bytes ≡ reply b s q
    told_others n =
        others_of (map image kept) images b.entries b.rows b.lists b.owner a.whole b.whole same there
        (blocks_same (map image kept) (map image images) looks) s q.unique q.node bytes sources q.op n over_kept
        ∙ sym (ap (λ st. reply st s q) b_is)

    pub told_front : HasFront (reply b s q) bytes ⊎ (bytes ≡ error_reply q.unique EIO)
    told_front =
        subst (λ st. HasFront (reply st s q) bytes ⊎ (bytes ≡ error_reply q.unique EIO)) (sym b_is)
        (front_of (map image kept) images b.entries b.rows b.lists b.owner a.whole b.whole same there
        (blocks_same (map image kept) (map image images) looks) s q.unique q.node bytes sources q.op over_kept)
