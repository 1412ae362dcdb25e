-- The accessible bytes of a sound image are an image with the same rules kept. They hold the volume
-- header, so what is accessible of them are all of them (`twice`), and each rule that speaks of
-- accessible bytes says the same of both (`kept_all`); `checked` is what callers use.
use Rattle.std.proofs.Common.{◌≡◌, ◌≢◌, ◌∙◌, sym, ap, subst, ℕ, ◌+◌, ◌-◌, ◌%◌, ◌<◌, ◌≤◌, ◌^◌, ◌⊎◌, inl, inr, List, length, take, drop, get_or, arith, refl, lit<}
use Rattle.std.proofs.lemmas.List.{take_all, length-take-le, get_or-drop, get_or-take}
use Rattle.std.proofs.lemmas.Bool.{cases_lt, false≢true}
use Rattle.std.proofs.Math.Seq.{take-append-add}
use Rattle.romfs_format.specs.declared.rule.Profile.TheVariants.{Usual}
use Rattle.romfs_format.specs.declared.rule.Rule.{Rule}
use Rattle.romfs_format.specs.declared.rule.Rule.TheVariants.{Short, Magic, FullSize, BadSum, VolumeName, NoRoot, Outside, NameOpen, NameBad, DataOutside, TargetLong, LinkedTwice, SameName, LinkLoop, LinkDirectory, MajorLarge, HeaderSum, TooDeep, Attributes}
use Rattle.std.specs.Prelude.{IsNone}
use Rattle.romfs_format.specs.declared.head.Kind.TheVariants.{Directory}
use Rattle.romfs_format.specs.Fields.{word, image, root, word_sum, summed, text_at, kind}
use Rattle.romfs_format.specs.Rules.{BreaksHeader, Breaks, StartsWith, magic, rule_number, IsVolume, IsSound}
use Rattle.romfs_reader.specs.Images.{IsImage}

byte_front : (b : List ℕ) (n k : ℕ) → 8 + k < n → get_or (drop 8 (take n b)) k 0 ≡ get_or (drop 8 b) k 0
byte_front b n k l = get_or-drop 8 (take n b) k 0 ∙ get_or-take n b (8 + k) 0 l ∙ sym (get_or-drop 8 b k 0)

word_front : (b : List ℕ) (n : ℕ) → 16 ≤ n → word (take n b) 8 ≡ word b 8
unfolding word
word_front b n l =
    rw (byte_front b n 0 (omega arith), byte_front b n 1 (omega arith), byte_front b n 2 (omega arith), byte_front b n 3 (omega arith)) refl

module _ (b : List ℕ) (v : IsVolume b) (long : 16 ≤ word b 8) (within : word b 8 ≤ length b) where
  size_is : length (image b) ≡ word b 8
  unfolding image
  size_is = length-take-le (word b 8) b within

  same_word : word (image b) 8 ≡ word b 8
  unfolding image
  same_word = word_front b (word b 8) long

  twice : image (image b) ≡ image b
  unfolding image
  twice = take_all (word (take (word b 8) b) 8) (take (word b 8) b) (let s = size_is in let w = same_word in omega arith)

  cut : StartsWith b magic → StartsWith (image b) magic
  unfolding image
  cut s =
      let e : word b 8 ≡ 8 + (word b 8 - 8) = omega arith in
      (take (word b 8 - 8) s.0, ap (λ x. take x b) e ∙ ap (λ x. take (8 + (word b 8 - 8)) x) s.1 ∙ take-append-add magic s.0 (word b 8 - 8))

  kept : (r : Rule) (p : ℕ) → rule_number r < 6 → ¬ Breaks Usual (image b) r p
  kept Short p l x = let s = size_is in let y = x.0 in omega arith
  kept Magic p l x = v.keeps Magic p l ((λ s. x.0 (cut s)), x.1)
  kept FullSize p l x = let s = size_is in let w = same_word in elim x.0 [ inl y ↦ omega arith | inr y ↦ omega arith ]
  kept BadSum p l x = v.keeps BadSum p l (subst (λ a. (word_sum (summed a) % 2 ^ 32 ≢ 0) × (p ≡ 12)) twice x)
  kept VolumeName p l x = v.keeps VolumeName p l (subst (λ a. IsNone (text_at a 16) × (p ≡ 16)) twice x)
  kept NoRoot p l x = v.keeps NoRoot p l (subst (λ a. ((length a < root a + 16) ⊎ (kind a (root a) ≢ Directory)) × (p ≡ root a)) twice x)
  kept _ p l x = omega arith

  module _ (sound : IsSound Usual b) where
    header_kept : (r : Rule) (p : ℕ) → ¬ BreaksHeader Usual (image b) r p → ¬ BreaksHeader Usual (image (image b)) r p
    header_kept r p n x = n (subst (λ a. BreaksHeader Usual a r p) twice x)

    kept_all : (r : Rule) (p : ℕ) → ¬ Breaks Usual (image b) r p
    kept_all Short p = kept Short p (lit< tt)
    kept_all Magic p = kept Magic p (lit< tt)
    kept_all FullSize p = kept FullSize p (lit< tt)
    kept_all BadSum p = kept BadSum p (lit< tt)
    kept_all VolumeName p = kept VolumeName p (lit< tt)
    kept_all NoRoot p = kept NoRoot p (lit< tt)
    kept_all Outside p = header_kept Outside p (sound.keeps Outside p)
    kept_all NameOpen p = header_kept NameOpen p (sound.keeps NameOpen p)
    kept_all NameBad p = header_kept NameBad p (sound.keeps NameBad p)
    kept_all DataOutside p = header_kept DataOutside p (sound.keeps DataOutside p)
    kept_all TargetLong p = header_kept TargetLong p (sound.keeps TargetLong p)
    kept_all LinkedTwice p = header_kept LinkedTwice p (sound.keeps LinkedTwice p)
    kept_all SameName p = header_kept SameName p (sound.keeps SameName p)
    kept_all LinkLoop p = header_kept LinkLoop p (sound.keeps LinkLoop p)
    kept_all LinkDirectory p = header_kept LinkDirectory p (sound.keeps LinkDirectory p)
    kept_all MajorLarge p = header_kept MajorLarge p (sound.keeps MajorLarge p)
    kept_all HeaderSum p = λ x. false≢true x.0
    kept_all TooDeep p = header_kept TooDeep p (sound.keeps TooDeep p)
    kept_all Attributes p = λ x. false≢true x.0

    -- the accessible bytes of a sound image are an image, given the bounds of its full size
    pub is_image : word b 8 < 2 ^ 32 → IsImage (image b)
    is_image small = record {
      small = (let s = size_is in omega arith);
      full = same_word ∙ sym size_is;
      sound = record { keeps = kept_all };
    }

-- the full size of a sound image is at least 16 and at most the number of its bytes
pub bounds : (b : List ℕ) → IsSound Usual b → (16 ≤ length b) × (16 ≤ word b 8) × (word b 8 ≤ length b)
bounds b s = (long, full, within)
  where
    long : 16 ≤ length b
    long = elim (cases_lt (length b) 16) [ inl l ↦ absurd (s.keeps Short 0 (l, refl)) | inr l ↦ l ]

    full : 16 ≤ word b 8
    full = elim (cases_lt (word b 8) 16) [ inl l ↦ absurd (s.keeps FullSize 8 (inr l, refl)) | inr l ↦ l ]

    within : word b 8 ≤ length b
    within = elim (cases_lt (length b) (word b 8)) [ inl l ↦ absurd (s.keeps FullSize 8 (inl l, refl)) | inr l ↦ l ]

-- the accessible bytes of a sound image are an image
pub checked : (b : List ℕ) → IsSound Usual b → word b 8 < 2 ^ 32 → IsImage (image b)
checked b s small = let l = bounds b s in is_image b (record { keeps = λ r p n. s.keeps r p }) l.1 l.2 s small
