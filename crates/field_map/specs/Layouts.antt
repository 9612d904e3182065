-- Registers of a device, each by itself or two of them as one value of 32 bits.
use Rattle.std.specs.Prelude.{ℤ, List, [], ◌∷◌}
use Rattle.modbus_wire.specs.declared.request.Request.{Request}
use Rattle.modbus_wire.specs.declared.request.Request.TheVariants.{WriteWords}
use Rattle.modbus_wire.specs.declared.reply.Reply.{Reply}
use Rattle.modbus_wire.specs.declared.reply.Reply.TheVariants.{Words}
use Rattle.field_map.specs.declared.layout.Layout.{Layout}
use Rattle.field_map.specs.declared.layout.Layout.TheVariants.{Single, HighFirst, LowFirst}

-- each two words in the other order; one that is left over stays
abbrev pub swapped : List ℤ → List ℤ
swapped (first ∷ (second ∷ others)) = second ∷ (first ∷ swapped others)
swapped others = others

-- a device's words as the controller has them, which has the high word of two first; or the other way round
abbrev pub arranged : Layout → List ℤ → List ℤ
arranged Single words = words
arranged HighFirst words = words
arranged LowFirst words = swapped words

-- a reply with its words as the controller has them
abbrev pub arranged_reply : Layout → Reply → Reply
arranged_reply layout (Words words) = Words (record { items = arranged layout words.items })
arranged_reply layout reply = reply

-- a write with its words as the device has them
abbrev pub arranged_request : Layout → Request → Request
arranged_request layout (WriteWords address values) =
    WriteWords address (record { items = arranged layout values.items })
arranged_request layout request = request
