-- The program `refshow`: which commit does this reference name?
use Rattle.std.specs.Prelude.{ℕ, List, [], ◌∷◌, ◌++◌, get_or}
use Rattle.std.specs.Prelude.{None, Some}
use Rattle.names.specs.Bytes.{Bytes, bytes}
use Rattle.names.specs.Check.{Check}
use Rattle.blocks.specs.Block.{Region}
use Rattle.refs.specs.Search.{Result, answers, turned_away, unfit}
use Rattle.refs.specs.Follow.{Followed, not_there, reached, stopped, barred}
use Rattle.text.specs.Text.{tab, newline, decimal}

-- what the numbers from 0 on mean and what to look at, as docs/REFUSALS.md has it
abbrev pub all_words : List Bytes
all_words =
    []
    ∷ bytes "a region's size is not a multiple of 512 bytes; look at whether the file was copied whole"
    ∷ bytes "a region has more than 4,096 blocks, or 40 for the programs; look at how many references the repository has, and whether the file is a snapshot"
    ∷ bytes "a name or a namespace is longer than 250 bytes; look at what was typed or passed"
    ∷ bytes "a name or a namespace is not one that git allows; look at what was typed: two dots, a space, a slash at an end, `.lock`, and the like"
    ∷ bytes "a namespace grows to more than 250 bytes where it is written out; look at the namespace: a shorter one is needed"
    ∷ bytes "a block is damaged: its sum, its lengths or its kind are wrong; look at the block that is told, and make the snapshot anew"
    ∷ bytes "a block says that a directory or packed-refs could not be read; look at the disc and the permissions where the snapshot was made"
    ∷ bytes "a name is not above the one before it in its region; look at how the snapshot was made: names must rise"
    ∷ bytes "a reference's file was there and could not be read; look at the permissions of that file where the snapshot was made"
    ∷ bytes "a reference's file holds neither an id nor `ref: ` and a name; look at the file: it may be cut short or hold something else"
    ∷ bytes "a symbolic reference names something that is no reference's name; look at the file's text behind `ref: `"
    ∷ bytes "the repository keeps its references in another way (reftable); look at how it keeps them: this reader can't serve it"
    ∷ bytes "a symbolic reference leads to a name that is not there; look at the last reference reached, and its target"
    ∷ bytes "symbolic references lead back to a name that was passed; look at the last reference reached: the chain runs in a circle"
    ∷ bytes "a chain of symbolic references passes five names; look at the last reference reached: shorten the chain"
    ∷ []

unfoldable pub words : ℕ → Bytes
words k = get_or all_words k []

-- the line of a refusal
unfoldable pub refused_line : ℕ → Bytes
refused_line k = bytes "refused " ++ decimal k ++ bytes ": " ++ words k ++ newline

-- the files are named after the regions
abbrev pub region_word : Region → Bytes
region_word Region.worktree = bytes "worktree"
region_word Region.common = bytes "common"
region_word Region.packed = bytes "packed"

-- the id and the last reference reached, `not there`, or the refusal; with 13 to 15 the last reference reached
abbrev pub followed_text : Followed → Bytes
followed_text not_there = bytes "not there" ++ newline
followed_text (reached id r) = id ++ tab ++ r.name ++ newline
followed_text (stopped k r) = refused_line k ++ bytes "last reference reached: " ++ r.name ++ newline
followed_text (barred k) = refused_line k

-- what `refshow` writes of what following gives; with 6 to 8 the file and the block
abbrev pub show_text : Result Followed → Bytes
show_text (answers f) = followed_text f
show_text (turned_away k) = refused_line k
show_text (unfit f) = refused_line f.number ++ (bytes "in " ++ region_word f.region ++ bytes ".blk, block " ++ decimal f.block ++ newline)

-- the same of files that are too large to be read, from their sizes; nothing where the sizes are right
abbrev pub size_show : Check → Bytes
size_show None = []
size_show (Some k) = refused_line k
