-- From a text to the profile of its messages.
pub mod TextProfile
