-- The names of a file's extended attributes, as an answer.
use Rattle.std.specs.Prelude.{ℕ, List, [], take, slice_get, IsTrue}
use Rattle.std.specs.Option.{option_map_or, option_to_list}
use Rattle.romfs_format.specs.Extended.{Extended, is_list, names_of}
use Rattle.reply_model.specs.Xattrs.{xattrs_told}
use Rattle.fuse_answer.specs.declared.outcome.Names.{Names}

-- the attributes that have the names
abbrev pub list_of : Names → List Extended
list_of names = option_map_or (λ xs. xs) names.list []

-- they are a list that a file may have
abbrev pub AreAllowed : Names → Type 0
AreAllowed names = IsTrue (is_list (list_of names))

-- the names that a client gets, each with its zero byte
abbrev pub names_said : Names → List ℕ
names_said names = names_of (xattrs_told names.acls (list_of names))

-- those before a position
abbrev pub said_before : Names → ℕ → List ℕ
said_before names position = names_of (xattrs_told names.acls (take position (list_of names)))

-- the one at a position; empty if the client does not get it
abbrev pub said_at : Names → ℕ → List ℕ
said_at names position =
    names_of (xattrs_told names.acls (option_to_list (slice_get (list_of names) position)))
