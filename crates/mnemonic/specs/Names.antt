-- The command names (§3.2), each with what it stands for: every one and no other, in alphabetical order, "*" first.
use Rattle.std.specs.Prelude.{ℕ, Bool, true, false, cond, ◌&&◌, List, [], ◌∷◌, eqb, Option, Some, None}
use Prim.Native.String.{String}
use Rattle.split.specs.Ascii.{bytes}
use Rattle.settings.specs.Table.{phas, fmod, freq, rslp, harm, slvl, isrc, ilin, ofsl, ignd, icpl, sync, sens, rmod}
use Rattle.settings.specs.Table.{oflt, ddef1j, fpop1, oexp1x, auxv1, srat, send, tstr}
use Rattle.mnemonic.specs.declared.Meaning.{Meaning}
use Rattle.mnemonic.specs.declared.Meaning.TheVariants.{Setting, Channel, ChannelPair, Enable, Status, Identity}
use Rattle.mnemonic.specs.declared.Meaning.TheVariants.{Points, Trace, Act}
use Rattle.mnemonic.specs.declared.Form.TheVariants.{Words, Floats}
use Rattle.mnemonic.specs.declared.Register.TheVariants.{Standard, Service, Lia, Errors}
use Rattle.mnemonic.specs.declared.Action.TheVariants.{Reset, Clear, Start, Pause, Empty, Trigger}

-- §3.1: a name, which is four letters, or "*" and three, with what it stands for
pub record Named : Type 0 where
  pub name : List ℕ
  pub meaning : Meaning

-- a name given as text
abbrev named : String → Meaning → Named
named s m = record { name = bytes s; meaning = m }

-- §3.2: the commands: a setting by its entry in the settings table, one with channels by the first one's entry and the
-- number of channels (§5.1)
abbrev pub commands : List Named
commands =
    named "*CLS" (Act Clear)
    ∷ named "*ESE" (Enable Standard)
    ∷ named "*ESR" (Status Standard)
    ∷ named "*IDN" Identity
    ∷ named "*RST" (Act Reset)
    ∷ named "*SRE" (Enable Service)
    ∷ named "*STB" (Status Service)
    ∷ named "AUXV" (Channel auxv1 4)
    ∷ named "DDEF" (ChannelPair ddef1j 2)
    ∷ named "ERRE" (Enable Errors)
    ∷ named "ERRS" (Status Errors)
    ∷ named "FMOD" (Setting fmod)
    ∷ named "FPOP" (Channel fpop1 2)
    ∷ named "FREQ" (Setting freq)
    ∷ named "HARM" (Setting harm)
    ∷ named "ICPL" (Setting icpl)
    ∷ named "IGND" (Setting ignd)
    ∷ named "ILIN" (Setting ilin)
    ∷ named "ISRC" (Setting isrc)
    ∷ named "LIAE" (Enable Lia)
    ∷ named "LIAS" (Status Lia)
    ∷ named "OEXP" (ChannelPair oexp1x 3)
    ∷ named "OFLT" (Setting oflt)
    ∷ named "OFSL" (Setting ofsl)
    ∷ named "PAUS" (Act Pause)
    ∷ named "PHAS" (Setting phas)
    ∷ named "REST" (Act Empty)
    ∷ named "RMOD" (Setting rmod)
    ∷ named "RSLP" (Setting rslp)
    ∷ named "SEND" (Setting send)
    ∷ named "SENS" (Setting sens)
    ∷ named "SLVL" (Setting slvl)
    ∷ named "SPTS" Points
    ∷ named "SRAT" (Setting srat)
    ∷ named "STRT" (Act Start)
    ∷ named "SYNC" (Setting sync)
    ∷ named "TRCB" (Trace Floats)
    ∷ named "TRCL" (Trace Words)
    ∷ named "TRIG" (Act Trigger)
    ∷ named "TSTR" (Setting tstr)
    ∷ []

-- whether two lists are of the same bytes
abbrev pub same_bytes : List ℕ → List ℕ → Bool
same_bytes [] [] = true
same_bytes [] (b ∷ t) = false
same_bytes (a ∷ s) [] = false
same_bytes (a ∷ s) (b ∷ t) = eqb a b && same_bytes s t

-- what a name stands for in a list of names, if it is one of them
unfoldable pub meaning_in : List Named → List ℕ → Option Meaning
meaning_in [] s = None
meaning_in (n ∷ ns) s = cond (same_bytes n.name s) (Some n.meaning) (meaning_in ns s)

-- §3.2: what a name stands for; none is no command's name
abbrev pub meaning_of : List ℕ → Option Meaning
meaning_of s = meaning_in commands s
