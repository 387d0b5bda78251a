mod FaultsFound
mod PlacesMade
mod HeadsFound
mod ScansContained
mod SeveralRead
mod StreamsPut
mod PartsListed
