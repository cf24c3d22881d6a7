mod ChangeDoes
mod EditsAtPlace
mod EditsByKey
mod RunLaws
mod RunsKept
mod SearchFinds
mod StaysKept
