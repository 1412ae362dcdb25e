-- What is held of images that sources show: each image itself, or what was gathered from it for the line (all_same). Both lists break the
-- same rules (all_go, all_come) and look the same (look_all).
use Rattle.std.proofs.Common.{◌≡◌, ◌⊎◌, ◌∙◌, sym, ap, subst, ℕ, suc, inl, inr, List, [], ◌∷◌, length, map, Option, Some, None, refl, arith}
use Rattle.std.specs.Prelude.{All}
use Rattle.std.specs.List.{AllZip}
use Rattle.std.proofs.lemmas.List.Elements.{length_all_zip}
use Rattle.devices.specs.Sources.{Source, Shows}
use Rattle.romfs_format.specs.declared.rule.Profile.{Profile}
use Rattle.romfs_format.specs.declared.rule.ImageFault.{ImageFault}
use Rattle.romfs_format.specs.Fields.{image}
use Rattle.romfs_format.specs.Profiles.{reads_attributes}
use Rattle.romfs_format.specs.Rules.{IsFaultOf, IsSound}
use Rattle.romfs_format.specs.Trailer.{lists_shown, rows_shown}
use Rattle.romfs_format.proofs.Faults.{profile_sound}
use Rattle.romfs_format.proofs.Targets.{short_target, named_target}
use Rattle.romfs_kept.proofs.WithTrailer.{same_rows_shown, same_lists_shown}
use Rattle.romfs_seal.specs.declared.digest.Digest.{Digest}
use Rattle.reply_model.specs.Readings.{AreShown}
use Rattle.serve_core.specs.Kept.{WasGatheredFor}
use Rattle.serve_core.proofs.Layers.{LookSame}
use Rattle.serve_core.proofs.Looks.{LooksSame, looks_alike}
use Rattle.serve_core.proofs.Refused.{AllGo, Goes, back, fault_alike, forth}
use Rattle.strata_words.specs.declared.options.Line.{Line}
use Rattle.strata_images.specs.Images.{AreReadFrom, IsReadFrom, asks_attributes, profile_of, reports_trailers, trailers_of}
use Rattle.strata_images.proofs.ByDigest.{given_is_shown}
use Rattle.strata_images.proofs.Rules.{reads}
use Rattle.strata.proofs.OverFiles.{by_trailers}

-- what is held of an image: all bytes, or what was gathered from it for a profile
abbrev pub IsSameFor : Profile → List ℕ → List ℕ → Type 0
IsSameFor profile b a = (a ≡ b) ⊎ WasGatheredFor profile b a

abbrev pub AreSameFor : Profile → List (List ℕ) → List (List ℕ) → Type 0
AreSameFor profile images kept = AllZip (IsSameFor profile) images kept

module _ (line : Line) where
  same_of : (digest : Option Digest) (a b : List ℕ) (source : Source) → IsReadFrom (trailers_of line) digest a source → Shows source b
      → IsSameFor (profile_of line) b a
  same_of None a b source from shown = inl (subst (λ s. Shows s b) from shown)
  same_of (Some digest) a b source (by, inl whole) shown = inl (given_is_shown source a b whole.0 whole.1 shown)
  same_of (Some digest) a b source (by, inr gathered) shown =
      let all = by_trailers (asks_attributes line) (reports_trailers line.verb) (reads_attributes (profile_of line)) source a (reads line)
      gathered in
      inr (all.each b shown)

  -- so it is of each image that its source shows
  pub all_same : (digests : List (Option Digest)) (kept : List (List ℕ)) (sources : List Source) (images : List (List ℕ))
      → AreReadFrom (trailers_of line) digests kept sources → AreShown sources images → AreSameFor (profile_of line) images kept
  all_same digests [] [] [] r s = tt
  all_same digests [] [] (b ∷ images) r s = absurd s
  all_same digests [] (source ∷ sources) images r s = absurd r
  all_same digests (a ∷ kept) [] images r s = absurd r
  all_same [] (a ∷ kept) (source ∷ sources) images r s = absurd r
  all_same (digest ∷ digests) (a ∷ kept) (source ∷ sources) [] r s = absurd s
  all_same (digest ∷ digests) (a ∷ kept) (source ∷ sources) (b ∷ images) r s =
      (same_of digest a b source r.0 s.0, all_same digests kept sources images r.1 s.1)

module _ (profile : Profile) where
  -- ---- the rules

  go_one : (b a : List ℕ) → IsSameFor profile b a → Goes profile a b
  go_one b a (inl e) = λ fault f. subst (λ x. IsFaultOf profile x fault) e f
  go_one b a (inr g) = λ fault f. (fault_alike profile b a g fault).1 f

  come_one : (b a : List ℕ) → IsSameFor profile b a → Goes profile b a
  come_one b a (inl e) = λ fault f. subst (λ x. IsFaultOf profile x fault) (sym e) f
  come_one b a (inr g) = λ fault f. (fault_alike profile b a g fault).0 f

  pub all_go : (images kept : List (List ℕ)) → AreSameFor profile images kept → AllGo profile kept images
  all_go = back (IsSameFor profile) (Goes profile) go_one

  pub all_come : (images kept : List (List ℕ)) → AreSameFor profile images kept → AllGo profile images kept
  all_come = forth (IsSameFor profile) (Goes profile) come_one

  pub counted : (images kept : List (List ℕ)) → AreSameFor profile images kept → length kept ≡ length images
  counted images kept s = sym (length_all_zip (IsSameFor profile) images kept s)

  -- ---- what they look like

  looks_itself : (b : List ℕ) → IsSound profile b → LooksSame (image b) (image b)
  looks_itself b s =
      let usual = profile_sound profile b s in
      record {
        long = refl;
        paths = λ path h. ((λ x. (x, refl)), (λ x. x));
        ends = λ path h end x. ((λ f. (f, refl, refl)), (λ f. f));
        targets = λ path h end n x f k l e. refl;
        short = λ path h end x f k. (named_target b usual path h end x f k, short_target b usual path h end x f k);
      }

  looks_one : (b a : List ℕ) → IsSameFor profile b a → IsSound profile b → LooksSame (image b) (image a)
  looks_one b a (inl e) s = subst (λ x. LooksSame (image b) (image x)) (sym e) (looks_itself b s)
  looks_one b a (inr g) s = looks_alike profile b a g s

  rows_one : (b a : List ℕ) → IsSameFor profile b a → IsSound profile b → rows_shown profile a ≡ rows_shown profile b
  rows_one b a (inl e) s = ap (λ x. rows_shown profile x) e
  rows_one b a (inr (inl g)) s = same_rows_shown b a g profile s
  rows_one b a (inr (inr g)) s = rw g.0 refl

  lists_one : (b a : List ℕ) → IsSameFor profile b a → IsSound profile b → lists_shown profile a ≡ lists_shown profile b
  lists_one b a (inl e) s = ap (λ x. lists_shown profile x) e
  lists_one b a (inr (inl g)) s = same_lists_shown b a g profile s
  lists_one b a (inr (inr g)) s = rw g.0 refl

  first_sound : (b : List ℕ) (images : List (List ℕ)) → All (IsSound profile) (b ∷ images) → IsSound profile b
  first_sound b images s = s 0 [] (omega arith)

  others_sound : (b : List ℕ) (images : List (List ℕ)) → All (IsSound profile) (b ∷ images) → All (IsSound profile) images
  others_sound b images s k d l = s (suc k) d (omega arith)

  pub look_all : (images kept : List (List ℕ)) → AreSameFor profile images kept → All (IsSound profile) images
      → LookSame (map image images) (map image kept)
  look_all [] [] f s = tt
  look_all (b ∷ images) (a ∷ kept) f s =
      (looks_one b a f.0 (first_sound b images s), look_all images kept f.1 (others_sound b images s))
  look_all [] (a ∷ kept) f s = absurd f
  look_all (b ∷ images) [] f s = absurd f

  -- they agree in what each image says, if it says the same of each
  all_say : {X : Type 0} (say : List ℕ → X)
      → ((b a : List ℕ) → IsSameFor profile b a → IsSound profile b → say a ≡ say b) → (images kept : List (List ℕ))
      → AreSameFor profile images kept → All (IsSound profile) images → map say kept ≡ map say images
  all_say say one [] [] f s = refl
  all_say say one (b ∷ images) (a ∷ kept) f s =
      ap (λ x. x ∷ map say kept) (one b a f.0 (first_sound b images s))
      ∙ ap (λ xs. say b ∷ xs) (all_say say one images kept f.1 (others_sound b images s))
  all_say say one [] (a ∷ kept) f s = absurd f
  all_say say one (b ∷ images) [] f s = absurd f

  pub sizes_all : (images kept : List (List ℕ)) → AreSameFor profile images kept → All (IsSound profile) images
      → map (λ b. length (image b)) kept ≡ map (λ b. length (image b)) images
  sizes_all = all_say (λ b. length (image b)) (λ b a f s. sym (looks_one b a f s).long)

  pub rows_all : (images kept : List (List ℕ)) → AreSameFor profile images kept → All (IsSound profile) images
      → map (rows_shown profile) kept ≡ map (rows_shown profile) images
  rows_all = all_say (rows_shown profile) rows_one

  pub lists_all : (images kept : List (List ℕ)) → AreSameFor profile images kept → All (IsSound profile) images
      → map (lists_shown profile) kept ≡ map (lists_shown profile) images
  lists_all = all_say (lists_shown profile) lists_one
