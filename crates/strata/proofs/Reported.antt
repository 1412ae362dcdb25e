-- What is reported of what is held of images is so of the images that their sources show: by `check` (checked), and by `list` (listed_by);
-- and they are bad if what is held is (blamed).
use Rattle.std.proofs.Common.{◌≡◌, ◌<◌, ◌≤◌, ◌∙◌, sym, ap, subst, ℕ, ◌++◌, inl, inr, List, [], ◌∷◌, length, map, Some, refl}
use Rattle.std.specs.Prelude.{All}
use Rattle.std.specs.List.{flat_map}
use Rattle.std.specs.Io.KnownBytes.{Appends}
use Rattle.devices.specs.Pushing.{GainsFront}
use Rattle.devices.specs.States.{SinkState}
use Rattle.romfs_format.specs.declared.rule.Profile.{Profile}
use Rattle.romfs_format.specs.declared.rule.ImageFault.{ImageFault}
use Rattle.romfs_format.specs.Fields.{image}
use Rattle.romfs_format.specs.Rules.{IsFault, IsSound}
use Rattle.stack_model.specs.declared.attr.Attr.{Attr}
use Rattle.stack_model.specs.declared.limits.TheConstants.{MAX_LAYERS}
use Rattle.stack_model.specs.declared.owner.TheConstants.Owner.{ROOT}
use Rattle.stack_model.specs.Listing.{Entry, Stacked, IsAmong, IsListing}
use Rattle.stack_model.specs.Numbers.{Place, place}
use Rattle.stack_prepare.specs.Layers.{IsFew}
use Rattle.stack_prepare.specs.Preparing.{AreStacked}
use Rattle.node_list.specs.Lines as text
use Rattle.reply_model.specs.Readings.{AreShown}
use Rattle.serve_core.specs.Kept.{over}
use Rattle.serve_core.proofs.Layers.{LookSame, entry_pair, listing_goes, look_back}
use Rattle.serve_core.proofs.Nodes.{IsNode}
use Rattle.serve_core.proofs.Places.{IsSamePlace, place_same}
use Rattle.serve_core.proofs.Refused.{AllGo, parted, refused_goes, sound_goes}
use Rattle.serve_core.proofs.Rows.{attr_same}
use Rattle.strata_words.specs.declared.options.Line.{Line}
use Rattle.strata_words.specs.declared.options.Verb.TheVariants as verbs
use Rattle.strata_images.specs.declared.faults.ImagesFault.{ImagesFault}
use Rattle.strata_images.specs.declared.faults.ImagesFault.TheVariants.{Layers}
use Rattle.strata_images.specs.Checking.{AreAccepted, AreNotAccepted, AreNotGood, AreSizes, IsFirstFault, IsImageFault}
use Rattle.strata_images.specs.Images.{AreNotStacked, AreReadFor, profile_of}
use Rattle.strata_images.specs.Listing.{IsListLost, IsNotListed, IsStackListed}
use Rattle.strata.specs.Laws.{AreBad, EndsAlike}
use Rattle.strata.proofs.Shown.{AreSameFor, all_come, all_go, all_same, counted, lists_all, look_all, rows_all, sizes_all}

module _ (profile : Profile) (images kept : List (List ℕ)) (same : AreSameFor profile images kept) where
  many : length kept ≡ length images
  many = counted profile images kept same

  goes : AllGo profile kept images
  goes = all_go profile images kept same

  sound : All (IsSound profile) kept → All (IsSound profile) images
  sound = sound_goes profile kept images goes

  -- ---- bad images

  pub bad_too : AreBad profile kept → AreBad profile images
  bad_too (inl many_or_none) = inl (subst (λ n. ¬ IsFew n) many many_or_none)
  bad_too (inr broken) = inr (λ s. broken (sound_goes profile images kept (all_come profile images kept same) s))

  -- ---- check

  sizes_too : (sizes : List ℕ) → AreSizes profile kept sizes → AreSizes profile images sizes
  sizes_too sizes s = record { sound = sound s.sound; sizes_are = s.sizes_are ∙ sizes_all profile images kept same (sound s.sound) }

  fault_too : (n : ℕ) (a b : List ℕ) (fault : ImagesFault)
      → ((f : ImageFault) → IsFault profile a f.rule f.place → IsFault profile b f.rule f.place) → IsImageFault profile n a fault
      → IsImageFault profile n b fault
  fault_too n a b fault go (inl f) = inl (f.0, f.1, go f.0 f.2)
  fault_too n a b fault go (inr m) = inr m

  first_too : (fault : ImagesFault) → IsFirstFault profile kept fault → IsFirstFault profile images fault
  first_too fault (inr m) = inr m
  first_too fault (inl r) =
      let p = parted profile r.before r.after r.bytes images (subst (λ xs. AllGo profile xs images) r.images_are goes) in
      inl (record {
        before = p.low;
        after = p.high;
        bytes = p.one;
        images_are = p.are;
        sound = sound_goes profile r.before p.low p.lower r.sound;
        refused = subst (λ n. IsImageFault profile n p.one fault) (sym p.long)
            (fault_too (length r.before) r.bytes p.one fault (λ f. p.goes (Some f)) r.refused);
      })

  -- ---- list

  unstacked_too : (fault : ImagesFault) → AreNotStacked profile kept fault → AreNotStacked profile images fault
  unstacked_too fault f = record {
    refusal = f.refusal;
    told = f.told;
    refused = refused_goes profile kept images f.refusal many goes f.refused;
  }

  module _ (stack : Stacked) (stacked : AreStacked profile ROOT kept stack) where
    all_sound : All (IsSound profile) images
    all_sound = sound stacked.layers.sound

    looks : LookSame (map image images) (map image kept)
    looks = look_all profile images kept same all_sound

    back : LookSame (map image kept) (map image images)
    back = look_back (map image images) (map image kept) looks

    listed : IsListing (map image kept) stack.entries
    listed = subst (λ ls. IsListing ls stack.entries) stacked.layers.are stacked.listing

    stacked_too : AreStacked profile ROOT images (over images stack)
    stacked_too = record {
      layers = record { few = subst (λ n. IsFew n) many stacked.layers.few; sound = all_sound; are = refl };
      rows_are = stacked.rows_are ∙ rows_all profile images kept same all_sound;
      lists_are = stacked.lists_are ∙ lists_all profile images kept same all_sound;
      owner_is = stacked.owner_is;
      listing = listing_goes (map image kept) (map image images) back stack.entries listed;
    }

    alike : (p : Place) → IsNode stack.entries p → IsSamePlace (map image kept) (map image images) p
    alike p (e, m, i) = subst (λ q. IsSamePlace (map image kept) (map image images) q) i
        (place_same (map image kept) (map image images) e.layer e.header
        (entry_pair (map image kept) (map image images) back stack.entries listed e m))

    -- the stack over these layers
    abbrev with_layers : List (List ℕ) → Stacked
    with_layers layers = record {
      layers = layers;
      entries = stack.entries;
      rows = stack.rows;
      lists = stack.lists;
      owner = stack.owner;
      whole = stack.whole;
    }

    line_too : (e : Entry) → IsAmong e stack.entries
        → text.line (with_layers (map image kept)) e ≡ text.line (with_layers (map image images)) e
    unfolding text.line_with
    line_too e m =
        ap (λ (a : Attr). text.fields_text a.ino a.mode a.nlink a.size e.layer ++ text.path_text e.path ++ 10 ∷ [])
        (attr_same (map image kept) (map image images) stack.entries stack.rows stack.lists stack.owner stack.whole stack.whole alike
        (place e) (e, m, refl))

    each_line : (es : List Entry) → ((e : Entry) → IsAmong e es → IsAmong e stack.entries)
        → flat_map (text.line (with_layers (map image kept))) es ≡ flat_map (text.line (with_layers (map image images))) es
    each_line [] there = refl
    each_line (e ∷ es) there =
        ap (λ xs. xs ++ flat_map (text.line (with_layers (map image kept))) es) (line_too e (there e (inl refl)))
        ∙ ap (λ xs. text.line (with_layers (map image images)) e ++ xs) (each_line es (λ f m. there f (inr m)))

    lines_too : text.lines stack ≡ text.lines (over images stack)
    lines_too = ap (λ layers. text.lines (with_layers layers)) stacked.layers.are ∙ each_line stack.entries (λ e m. m)

  list_too : (old new : SinkState) → IsStackListed profile kept old new → IsStackListed profile images old new
  list_too old new l = record {
    stack = over images l.stack;
    stacked = stacked_too l.stack l.stacked;
    listed = record {
      gained = subst (λ ls. Appends old.held new.held ls) (lines_too l.stack l.stacked) l.listed.gained;
      flushed = l.listed.flushed;
    };
  }

  lost_too : (fault : ImagesFault) (old new : SinkState) → IsListLost profile kept fault old new → IsListLost profile images fault old new
  lost_too fault old new l = record {
    told = l.told;
    stack = over images l.stack;
    stacked = stacked_too l.stack l.stacked;
    broken = (l.broken.0, subst (λ ls. GainsFront ls old.held new.held) (lines_too l.stack l.stacked) l.broken.1);
  }

  unlisted_too : (fault : ImagesFault) (old new : SinkState) → IsNotListed profile kept fault old new
      → IsNotListed profile images fault old new
  unlisted_too fault old new (inl (inl f, e)) = inl (inl (unstacked_too fault f), e)
  unlisted_too fault old new (inl (inr m, e)) = inl (inr m, e)
  unlisted_too fault old new (inr l) = inr (lost_too fault old new l)

module _ (line : Line) (kept images : List (List ℕ)) (read : AreReadFor line kept) (shown : AreShown read.sources images) where
  same : AreSameFor (profile_of line) images kept
  same = all_same line line.digests.items kept read.sources images read.read shown

  accepted : (sizes : List ℕ) → AreAccepted line kept sizes → AreAccepted line images sizes
  accepted sizes a = record {
    sizes_are = sizes_too (profile_of line) images kept same sizes a.sizes_are;
    few = λ asked. subst (λ n. n ≤ MAX_LAYERS) (many (profile_of line) images kept same) (a.few asked);
  }

  not_accepted : (fault : ImagesFault) → AreNotAccepted line kept fault → AreNotAccepted line images fault
  not_accepted fault (inl f) = inl (first_too (profile_of line) images kept same fault f)
  not_accepted fault (inr t) =
      let n = many (profile_of line) images kept same in
      inr (record {
        asked = t.asked;
        many = subst (λ n. MAX_LAYERS < n) n t.many;
        told = t.told ∙ ap Layers n;
      })

  not_good : (fault : ImagesFault) (old new : SinkState) → AreNotGood line kept fault old new → AreNotGood line images fault old new
  not_good fault old new (inl (f, e)) = inl (not_accepted fault f, e)
  not_good fault old new (inr u) =
      inr (record { told = u.told; sizes = u.sizes; accepted = accepted u.sizes u.accepted; lost = u.lost })

  pub checked : (A : Type 0) → EndsAlike A verbs.Check line kept images
  checked A = record {
    done = λ old new d. (d.0, record { sizes = d.1.sizes; accepted = accepted d.1.sizes d.1.accepted; put = d.1.put });
    stopped = λ old new fault s. (s.0, (s.1.0, s.1.1, not_good s.1.0 old.sink new.sink s.1.2));
  }

  pub listed_by : (A : Type 0) → EndsAlike A verbs.List line kept images
  listed_by A = record {
    done = λ old new d. (d.0, list_too (profile_of line) images kept same old.sink new.sink d.1);
    stopped = λ old new fault s. (s.0, (s.1.0, s.1.1, unlisted_too (profile_of line) images kept same s.1.0 old.sink new.sink s.1.2));
  }

  pub blamed : AreBad (profile_of line) kept → AreBad (profile_of line) images
  blamed = bad_too (profile_of line) images kept same
