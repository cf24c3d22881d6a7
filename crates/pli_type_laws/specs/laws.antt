pub mod TextSorting
