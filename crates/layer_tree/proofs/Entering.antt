-- The entry of a header, by where its hard links end. entered says which entry it is;
-- directory_stays and no_directory say that directories end at themselves, and that nothing else
-- ends at one.
use Rattle.std.proofs.Common.{◌≡◌, ◌≢◌, sym, ap, subst, ℕ, inr, List, refl}
use Rattle.romfs_format.specs.declared.head.Head.{Head}
use Rattle.romfs_format.specs.declared.head.Kind.TheVariants.{Directory}
use Rattle.romfs_format.specs.Fields.{kind}
use Rattle.romfs_format.specs.Links.{IsFinal, stays, follows}
use Rattle.romfs_reader.specs.Images.{IsImage}
use Rattle.romfs_reader.proofs.Keeps.{not_directory}
use Rattle.romfs_reader.proofs.Given.{From, from_inside, hard_member}
use Rattle.romfs_reader.specs.Readers.{IsGiven}
use Rattle.layer_paths.specs.declared.entries.Entry.{Entry}
use Rattle.layer_paths.specs.Trees.{entry_of}
use Rattle.layer_tree.specs.Reading.{IsEntryIn}

-- no hard link leads on from a directory
pub directory_stays : (a : List ℕ) (h : ℕ) → kind a h ≡ Directory → IsFinal a h h
directory_stays a h d = stays (λ l. let k = l.1 in absurd (cc))

-- what is not a directory does not lead to one
pub no_directory : (a : List ℕ) → IsImage a → (h e : ℕ) → From a h → kind a h ≢ Directory → IsFinal a h e → kind a e ≢ Directory
no_directory a i h e from n (stays m) = n
no_directory a i h e from n (follows l f) = λ k. (
    let m = hard_member a i h from l in
    not_directory a i h (m, l, (e, follows l f, (from_inside a i e (inr (inr (h, m, follows l f))), k))))

-- the entry of where a header ends is that header's
pub entered : (a : List ℕ) (layer h : ℕ) (end : Head) (entry : Entry) → IsGiven a end → IsFinal a h end.offset
    → entry ≡ entry_of layer end → IsEntryIn a layer h entry
entered a layer h end entry g f e = subst (IsEntryIn a layer h) (sym e) (record {
  number = refl;
  final = f;
  is_read = ap (entry_of layer) g.is;
})
