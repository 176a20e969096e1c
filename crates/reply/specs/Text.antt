-- The text that a query replies: §4.6, §5.1, §6.1, §7.9, §10.2, §10.3, §10.5, §10.6, §11.1 and §11.3.
use Rattle.std.specs.Prelude.{ℕ, Bool, false, cond, List, [], ◌++◌, eqb}
use Rattle.split.specs.Ascii.{bytes}
use Rattle.settings.specs.Table.{freq, row_of, next_entry, value_of}
use Rattle.settings.specs.Frequency.{in_force}
use Rattle.queue.specs.Queue.{rs232, lf, cr}
use Rattle.storage.specs.Storage.{at_rest}
use Rattle.status.specs.Bits.{bit_of}
use Rattle.status.specs.Status.{register_of, enable_of, status_byte}
use Rattle.format.specs.Text.{plain, padded, signed_text, next}
use Rattle.mnemonic.specs.declared.Register.{Register}
use Rattle.mnemonic.specs.declared.Register.TheVariants.{Standard, Service, Lia, Errors}
use Rattle.command.specs.declared.QueryArgument.{QueryArgument}
use Rattle.command.specs.declared.QueryArgument.TheVariants.{Value, Pair, Enable, EnableBit, Status, StatusBit}
use Rattle.command.specs.declared.QueryArgument.TheVariants.{Identity, Points, Trace}
use Rattle.state.specs.declared.State.{State}

-- §6.1: the value that a query replies: for FREQ the frequency in force, by the reference's mode; §5.4: for any other
-- setting what is kept
unfoldable pub value_now : State → ℕ → ℕ
value_now s entry =
    cond (eqb entry freq) (in_force s.settings s.acquisition.external) (value_of s.settings entry)

-- §4.6 and §5.1: a value with as many decimals as its row says, and a minus only below zero
unfoldable pub value_text : State → ℕ → List ℕ
value_text s entry = signed_text (row_of entry).decimals (row_of entry).bias (value_now s entry)

-- §4.6: two values, divided by a comma
unfoldable pub pair_text : State → ℕ → List ℕ
pair_text s entry =
    let second = next_entry entry in
    value_text s entry ++ next (row_of second).decimals (row_of second).bias (value_now s second)

-- §10.5 and §10.6: the status byte while a line runs: a command is running, and bytes of the line's reply may wait
unfoldable pub status_now : State → Bool → ℕ
status_now s waiting =
    status_byte s.registers s.enables
    (record { at_rest = at_rest s.acquisition.storage; idle = false; waiting = waiting })

-- §10.2 and §10.6: what a status query reads: an event register or the status byte
unfoldable pub status_of : State → Bool → Register → ℕ
status_of s waiting Standard = register_of s.registers Standard
status_of s waiting Service = status_now s waiting
status_of s waiting Lia = register_of s.registers Lia
status_of s waiting Errors = register_of s.registers Errors

-- §11.1: the reply to *IDN?: make and model, the serial number in five digits, the version
unfoldable pub identity_text : ℕ → List ℕ
identity_text serial = bytes "LOCKIN,M1,s/n" ++ (padded 5 serial ++ bytes ",ver1.000")

-- §5.1, §7.9, §10.2, §10.3, §10.6 and §11.1: a reply that is a text, without its end; a trace read is none
unfoldable pub text_of : QueryArgument → State → Bool → List ℕ
text_of (Value entry) s waiting = value_text s entry
text_of (Pair entry) s waiting = pair_text s entry
text_of (Enable which) s waiting = plain (enable_of s.enables which)
text_of (EnableBit which i) s waiting = plain (bit_of (enable_of s.enables which) i)
text_of (Status which) s waiting = plain (status_of s waiting which)
text_of (StatusBit which i) s waiting = plain (bit_of (status_of s waiting which) i)
text_of Identity s waiting = identity_text s.installation.serial
text_of Points s waiting = plain s.acquisition.storage.held
text_of (Trace form t bin count) s waiting = []

-- §11.3: the byte that ends a reply, by the port's number: CR on RS232, LF on GPIB
abbrev pub terminator_of : ℕ → ℕ
terminator_of port = cond (eqb port rs232) cr lf
