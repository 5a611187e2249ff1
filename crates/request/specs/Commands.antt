-- The commands and their names. Assumes nothing.
use Rattle.std.specs.Prelude.{ℕ, cond, List, [], ◌∷◌, Some, None, codes, Option}
use Rattle.grammar.specs.Words.{same_word}
use Rattle.request.specs.declared.commands.Command.{Command}
use Rattle.request.specs.declared.commands.Command.TheVariants.{Mon, Moff, Mreset, Msave, Loop, Mwi, Mwir, Mwv, Mwvr, Msri, Msrv, Mwg, Password, Mst, Mri, Mrv, Ver, Mrid, Mrg, Mrt}

abbrev pub name_of : Command → List ℕ
name_of Mon = codes "MON"
name_of Moff = codes "MOFF"
name_of Mreset = codes "MRESET"
name_of Msave = codes "MSAVE"
name_of Loop = codes "LOOP"
name_of Mwi = codes "MWI"
name_of Mwir = codes "MWIR"
name_of Mwv = codes "MWV"
name_of Mwvr = codes "MWVR"
name_of Msri = codes "MSRI"
name_of Msrv = codes "MSRV"
name_of Mwg = codes "MWG"
name_of Password = codes "PASSWORD"
name_of Mst = codes "MST"
name_of Mri = codes "MRI"
name_of Mrv = codes "MRV"
name_of Ver = codes "VER"
name_of Mrid = codes "MRID"
name_of Mrg = codes "MRG"
name_of Mrt = codes "MRT"

-- every command once; no two have the same name, so that the order does not matter
abbrev pub commands : List Command
commands =
    Mon ∷ Moff ∷ Mreset ∷ Msave ∷ Loop ∷ Mwi ∷ Mwir ∷ Mwv ∷ Mwvr ∷ Msri ∷ Msrv ∷ Mwg ∷ Password ∷ Mst ∷ Mri ∷ Mrv ∷ Ver ∷ Mrid ∷ Mrg ∷ Mrt ∷ []

abbrev pub named_among : List Command → List ℕ → Option Command
named_among [] word = None
named_among (c ∷ cs) word = cond (same_word word (name_of c)) (Some c) (named_among cs word)

-- the command that a word names, in any letter case
unfoldable pub command_of : List ℕ → Option Command
command_of word = named_among commands word
